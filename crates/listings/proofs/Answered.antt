-- What the listing answers. Assumes nothing.
use Rattle.std.proofs.Common.{◌≡◌, ℕ, ◌<◌, ◌≤◌, true, false, List, length, Ok, Err}
use Rattle.std.proofs.lemmas.Bool.{lt-ltb, le-ltb}
use Rattle.hexline.specs.declared.fault.TextFault.{TextFault}
use Rattle.hexline.specs.declared.fault.TextFault.TheVariants.{TooLong}
use Rattle.ihex.specs.Reads.{text_of}
use Rattle.ihex.specs.Named.{reaches}
use Rattle.listings.specs.declared.fault.ProgramFault.TheVariants.{Text, PastWindow}
use Rattle.listings.specs.Outputs.{listed, strings_of}

module _ (text : List ℕ) where
  pub too_long_lem : 65536 < length text → listed text ≡ Err (Text TooLong)
  unfolding listed
  too_long_lem long = rw (lt-ltb 65536 (length text) long)

  module _ (short : length text ≤ 65536) where
    pub refused_text : (f : TextFault) → text_of text ≡ Err f → listed text ≡ Err (Text f)
    unfolding listed
    refused_text f is = rw (le-ltb 65536 (length text) short, is)

    pub past_window : (v : Unit {0}) → text_of text ≡ Ok v → reaches 16384 text ≡ true → listed text ≡ Err PastWindow
    unfolding listed
    past_window v is past = rw (le-ltb 65536 (length text) short, is, past)

    pub strings_came : (v : Unit {0}) → text_of text ≡ Ok v → reaches 16384 text ≡ false → listed text ≡ Ok (strings_of text)
    unfolding listed
    strings_came v is past = rw (le-ltb 65536 (length text) short, is, past)
