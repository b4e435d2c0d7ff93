use Rattle.std.proofs.Common.{◌+◌, length, refl, arith}
use Rattle.bootloader.proofs.Laying.{frame_laid}
use Rattle.bootloader.proofs.frame.fill_frame.Goals as goal

pub returns-clause-after : goal.returns-clause-after
returns-clause-after c =
    let payload = c.args.payload.now in
    frame_laid c.args.code payload c.copy_from_slice.new.self (length payload + 2) c.copy_from_slice.ensures.after refl c.args.buf.now c.csum.result (omega arith) c.csum.ensures
