use Rattle.std.proofs.Common.{List, ap, ◌∙◌}
use Rattle.fws_iv.specs.declared.iv.Iv.{Iv}
use Rattle.fws_ios.specs.Values.{port_test}
use Rattle.fws_ios_read.specs.Ports.{compared_literal}
use Rattle.fws_ios_read.proofs.ComparedPorts.{compared_so}
use Rattle.fws_ios_read.proofs.values.port_literal.Goals as goal

pub returns : goal.returns
returns c =
    c.compared_literal.ensures ∙ ap (compared_literal c.args.word) c.port_test.ensures
    ∙ ap (λ (set : List Iv). compared_literal c.args.word (port_test c.args.place set)) c.in_ok-set.ensures
    ∙ compared_so c.args.place c.args.word c.args.port
