use Rattle.std.proofs.Common.{◌≡◌}
use Rattle.std.proofs.lemmas.Option.{unwrap_or-slice_get}
use Rattle.adversary.specs.Choices.{clean}
use Rattle.adversary.specs.Scripted.{next_choice}
use Rattle.adversary.specs.Adversaries.{scripted_in}
use Rattle.adversary.proofs.adversary.Adversary.begin.Goals as goal

pub returns-clause-choice : goal.returns-clause-choice
returns-clause-choice g c = let next = unwrap_or-slice_get c.args.self.now.choices.now c.args.self.now.at clean in cc

pub returns-clause-after : goal.returns-clause-after
returns-clause-after g c =
    let next : c.unwrap_or-choice.result ≡ next_choice (scripted_in c.args.self.now) = returns-clause-choice g c in
    cc
