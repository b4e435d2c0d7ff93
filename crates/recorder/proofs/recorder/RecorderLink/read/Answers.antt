use Rattle.std.proofs.Common.{length}
use Rattle.recorder.proofs.Padding.{filled_fits}
use Rattle.recorder.proofs.recorder.RecorderLink.read.Goals as goal

pub of_read-read-requires : goal.of_read-read-requires
of_read-read-requires g c =
    filled_fits g.L.Link.machine (g.L.Link.view c.args.self.now.link) c.args.register (length c.args.buf.now) c.read-answer.new.buf c.read-answer.result c.read-answer.ensures.answer c.read-answer.auto.buf
