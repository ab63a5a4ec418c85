-- Ports that are compared.
use Rattle.std.specs.Prelude.{ℕ, List}
use Rattle.fws_iv.specs.declared.iv.Iv.{Iv}
use Rattle.fws_net.specs.declared.condition.Lit.{Lit}
use Rattle.fws_net.specs.declared.condition.Test.{Test}
use Rattle.fws_rules.specs.Literals.{negative, one, positive}
use Rattle.fws_ios.specs.declared.words.PortWord.{PortWord}
use Rattle.fws_ios.specs.declared.words.PortWord.TheVariants as ports
use Rattle.fws_ios.specs.Values.{ports_above, ports_below}

-- the ports that are compared so with this one, or else that are equal to it
abbrev pub compared_ports : PortWord → ℕ → List Iv
compared_ports ports.Equal port = one port port
compared_ports ports.Unequal port = one port port
compared_ports ports.Less port = ports_below port
compared_ports ports.Greater port = ports_above port
compared_ports ports.Range port = one port port

-- the literal of a test of the ports that are compared so
abbrev pub compared_literal : PortWord → Test → Lit
compared_literal ports.Equal test = positive test
compared_literal ports.Unequal test = negative test
compared_literal ports.Less test = positive test
compared_literal ports.Greater test = positive test
compared_literal ports.Range test = positive test
