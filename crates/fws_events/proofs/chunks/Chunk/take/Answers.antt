use Rattle.std.proofs.Common.{List, get_or, ◌∙◌, ap}
use Rattle.std.specs.List.{remove}
use Rattle.fws_net.specs.declared.connection.Conn.{Conn}
use Rattle.fws_events.proofs.chunks.Chunk.take.Goals as goal

pub invariant_of-self : goal.invariant_of-self
invariant_of-self c = (c.take_entry.ensures.known c.self.invariant.0 c.self.invariant.1, λ is. c.take_entry.ensures.apart (c.self.invariant.1 is))

pub returns-clause-taken : goal.returns-clause-taken
returns-clause-taken c = c.take_entry.ensures.taken ∙ ap (λ (cs : List Conn). remove cs c.args.k) c.self.view_is

pub returns-clause-given : goal.returns-clause-given
returns-clause-given c = c.take_entry.ensures.given ∙ ap (λ (cs : List Conn). get_or cs c.args.k c.take_entry.result) c.self.view_is
