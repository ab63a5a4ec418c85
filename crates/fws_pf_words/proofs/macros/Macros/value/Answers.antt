use Rattle.std.proofs.Common.{Some, None}
use Rattle.fws_pf_words.proofs.Uses.{value_looked_up}
use Rattle.fws_pf_words.proofs.macros.Macros.value.Goals as goal

pub returns-in-Some : goal.returns-in-Some
returns-in-Some c = value_looked_up c.args.name.now c.self.inside.words.entries c.args.self.now (Some c.in-Some.words.now) c.self.view_is c.in-Some.ensures.value

pub returns-in-None : goal.returns-in-None
returns-in-None c = value_looked_up c.args.name.now c.self.inside.words.entries c.args.self.now None c.self.view_is c.in-None.ensures.value
