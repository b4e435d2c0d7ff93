use Rattle.bootloader.specs.Commands.{meaning}
use Rattle.bootloader.proofs.Reading.{reads_back}
use Rattle.bootloader.proofs.command.Command.encode.Goals as goal

pub returns-clause-back : goal.returns-clause-back
returns-clause-back c =
    reads_back (meaning c.args.self.now) c.args.buf.now c.lay.new.buf c.lay.result c.lay.ensures.result c.lay.ensures.after
