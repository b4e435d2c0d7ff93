use Rattle.std.proofs.Common.{◌≡◌, ◌+◌, ◌∙◌, rules}
use borrow.Author.Tests.{tests}
use Rattle.std.proofs.lemmas.Iterator.{YieldsList-from_slice}
use Rattle.std.proofs.lemmas.Iterator.Adapters.{YieldsList-from_skip}
use Rattle.std.proofs.lemmas.Iterator.Search.{position_from_yields_List}
use Rattle.std.specs.Option.{is_none, option_map}
use Rattle.hexline.specs.Digits.{digit_of}
use Rattle.hexline.proofs.Strays.{stray_from}
use Rattle.hexline.proofs.form.stray.Goals as goal

pub returns : goal.returns
returns c =
    let after = c.position-after in
    let place = stray_from c.args.chars.now after.result (position_from_yields_List (λ b. is_none (digit_of b)) _ _ after.result after.ensures.ran (YieldsList-from_skip 1 (YieldsList-from_slice c.args.chars.now (search rules)) (search rules)) (λ x b q k. search (rules, tests))) in
    let mapped : c.map.result ≡ option_map (λ k. 1 + k) after.result = search rules in
    mapped ∙ place
