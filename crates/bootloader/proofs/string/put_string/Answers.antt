use Rattle.std.proofs.Common.{refl}
use Rattle.bootloader.proofs.Spelling.{string_laid}
use Rattle.bootloader.proofs.string.put_string.Goals as goal

pub returns-clause-after : goal.returns-clause-after
returns-clause-after c =
    string_laid c.args.start.now c.args.bytes.now c.args.buf.now c.copy_from_slice.new.self c.spell.new.buf c.copy_from_slice-2.new.self _
    c.copy_from_slice.ensures.after c.spell.ensures c.copy_from_slice-2.ensures.after refl
