use Rattle.std.proofs.Common.{◌≡◌, ℕ, List, ◌+◌, ◌++◌, [], ◌∷◌, length, get_or, take, drop, set, sym, ap, ◌∙◌, arith, rules}
use Rattle.std.specs.declared.iter.Enumerate.{Enumerate}
use Rattle.std.specs.declared.iter.Take.{Take}
use Rattle.std.specs.Iterator.{YieldsFirst}
use Rattle.std.specs.Iterator.Adapters.{enumerate_steps, take_steps}
use Rattle.std.specs.List.{enumerate_from}
use Rattle.std.proofs.lemmas.Iterator.{YieldsList, YieldsList-from_take}
use Rattle.std.proofs.lemmas.Iterator.Consumers.{YieldsList-from_first, YieldsList-from_enumerate, YieldsList-turn, YieldsList-end}
use Rattle.std.proofs.lemmas.List.{get_or-take, length-append, length-take-le}
use Rattle.std.proofs.lemmas.List.FromFn.{length-enumerate_from}
use Rattle.std.proofs.lemmas.Grind.{get_or_default_zero}
use Rattle.hexline.specs.declared.digits.Pairs.{Pairs}
use Rattle.hexline.specs.Digits.{pairs}
use Rattle.hexline.proofs.Pairs.{length_pairs, turn_is, filled_more}
use Rattle.hexline.proofs.digits.decode.Goals as goal

-- the first bytes come, each with its number
bytes_come : (s : Enumerate (Take Pairs)) (bytes : List ℕ) (count : ℕ) → pairs s.iter.iter.0.now ≡ bytes → s.iter.n ≡ count → s.count ≡ 0 → YieldsList {B = ℕ × ℕ} (enumerate_steps (take_steps (YieldsFirst (λ (s : Pairs). pairs s.0.now)))) (λ p. (p.0, p.1)) s (enumerate_from 0 (take count bytes))
bytes_come s bytes count left few start = YieldsList-from_enumerate (YieldsList-from_take count (YieldsList-from_first (λ b. b) (λ (s : Pairs). pairs s.0.now) bytes left) few) start

pub loop-i-preserved : goal.loop-i-preserved
loop-i-preserved c =
    let bytes = pairs c.args.digits.now in
    let row = c.args.row.now in
    let count = c.min-count.result in
    let k = length c.loop-i.yielded in
    let road = bytes_come c.into_iter-i-iterator.result bytes count (search rules) (search rules) (search rules) in
    let turn = YieldsList-turn road c.loop-i.yielded c.loop-i.i-iterator c.loop-i.yielded_by c.next.result c.next.new.self (c.in-Some.i, c.in-Some.byte) c.in-Some.is c.next.ensures.steps in
    let at = turn_is (take count bytes) k c.in-Some.i c.in-Some.byte turn.0 turn.1 in
    let long = length_pairs c.args.digits.now in
    let few = length-take-le count bytes (omega arith) in
    let byte : c.in-Some.byte ≡ get_or bytes k 0 = at.2 ∙ get_or-take count bytes k c.in-Some.byte (omega arith) ∙ get_or_default_zero bytes k c.in-Some.byte (omega arith) in
    let more : length (c.loop-i.yielded ++ (c.in-Some.i, c.in-Some.byte) ∷ []) ≡ k + 1 = length-append c.loop-i.yielded ((c.in-Some.i, c.in-Some.byte) ∷ []) in
    ap (λ n. set c.loop-i.row n c.in-Some.byte) at.1
    ∙ filled_more bytes row c.loop-i.row k c.in-Some.byte (omega arith) (omega arith) byte c.loop-i.invariant
    ∙ ap (λ n. take n bytes ++ drop n row) (sym more)

pub returns : goal.returns
returns c =
    let bytes = pairs c.args.digits.now in
    let row = c.args.row.now in
    let count = c.min-count.result in
    let road = bytes_come c.into_iter-i-iterator.result bytes count (search rules) (search rules) (search rules) in
    let end = YieldsList-end road c.loop-i.yielded c.loop-i.i-iterator c.loop-i.yielded_by c.next.result c.next.new.self c.in-None.is c.next.ensures.steps in
    let long = length_pairs c.args.digits.now in
    let all : length c.loop-i.yielded ≡ count = end.1 ∙ length-enumerate_from 0 (take count bytes) ∙ length-take-le count bytes (omega arith) in
    record { count = c.min-count.ensures; after = c.loop-i.invariant ∙ ap (λ n. take n bytes ++ drop n row) all }
