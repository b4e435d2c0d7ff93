-- What a recorder's notes say. Assumes nothing.
use Rattle.std.specs.Prelude.{map, vec_items, vec_capacity}
use Rattle.recorder.specs.declared.notes.Notes.TheInside.{Inside}
use Rattle.recorder.specs.Kept.{meaning}
use Rattle.recorder.specs.Books.{Book}

abbrev pub book_of : Inside → Book
book_of n = record { log = map meaning (vec_items n.entries); room = vec_capacity n.entries; short = n.short }
