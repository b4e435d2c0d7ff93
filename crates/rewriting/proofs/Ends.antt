-- A CR before an LF changes no byte. Assumes nothing.
use Rattle.std.proofs.Common.{◌≡◌, ℕ, List, [], ◌∷◌, ◌++◌, None, fold, sym, ap, ◌∙◌, subst}
use Rattle.std.specs.List.{AllByRecursion}
use Rattle.ihex.specs.Reads.{nothing_seen}
use Rattle.rewriting.specs.Ended.{EndedLine, written, chars_of, Unended}
use Rattle.rewriting.specs.Laws.{EndsFree}
use Rattle.rewriting.proofs.Cut.{cut_written}
use Rattle.rewriting.proofs.Bare.{whole, bare_from, bare_next, text_chars, keeps_from}

unended_chars : (ls : List EndedLine) → AllByRecursion (λ l. Unended l.chars) ls → AllByRecursion Unended (chars_of ls)
unended_chars [] h = tt
unended_chars (l ∷ ls) h = (h.0, unended_chars ls h.1)

unended_lines : (ls : List EndedLine) → AllByRecursion Unended (chars_of ls) → AllByRecursion (λ l. Unended l.chars) ls
unended_lines [] h = tt
unended_lines (l ∷ ls) h = (h.0, unended_lines ls h.1)

same_chars : (ls others : List EndedLine) (rest : List ℕ) → AllByRecursion (λ l. Unended l.chars) ls → chars_of others ≡ chars_of ls → text_chars (written others rest) ≡ text_chars (written ls rest)
same_chars ls others rest h e =
    let k : AllByRecursion (λ l. Unended l.chars) others = unended_lines others (subst (AllByRecursion Unended) (sym e) (unended_chars ls h)) in
    cut_written others rest k ∙ ap (λ css. css ++ text_chars rest) e ∙ sym (cut_written ls rest h)

pub ends_free : EndsFree
ends_free ls others rest h e =
    let same = same_chars ls others rest h e in
    keeps_from (written ls rest) (written others rest) (λ ok. ap (λ css. whole (bare_from nothing_seen css)) same ∙ ok) (λ a. ap (fold (bare_next a) None) same)
