use Rattle.std.proofs.Common.{◌≡◌, ◌*◌, get_or, drop, ap, ◌∙◌, rules, arith}
use Rattle.std.proofs.lemmas.List.{get_or-drop, take_rest, drop_all}
use Rattle.hexline.specs.Digits.{pairs}
use Rattle.hexline.proofs.Pairs.{pairs_drop}
use Rattle.hexline.proofs.digits.byte_at.Goals as goal

pub returns : goal.returns
returns c =
    let digits = c.args.digits.now in
    let rest : c.unwrap_or-rest.result.now ≡ drop (2 * c.args.k) digits = let t = take_rest digits (2 * c.args.k) in search (rules, drop_all) in
    let from : pairs c.unwrap_or-rest.result.now ≡ drop c.args.k (pairs digits) = ap pairs rest ∙ pairs_drop c.args.k digits in
    let byte : get_or (pairs c.unwrap_or-rest.result.now) 0 0 ≡ get_or (pairs digits) c.args.k 0 = ap (λ bs. get_or bs 0 0) from ∙ get_or-drop c.args.k (pairs digits) 0 0 ∙ ap (λ n. get_or (pairs digits) n 0) (omega arith) in
    search rules
