-- Ports that are compared.
use Rattle.std.proofs.Common.{◌≡◌, ℕ, refl}
use Rattle.fws_ios.specs.declared.draft.Place.{Place}
use Rattle.fws_ios.specs.declared.words.PortWord.{PortWord}
use Rattle.fws_ios.specs.declared.words.PortWord.TheVariants as ports
use Rattle.fws_ios.specs.Values.{port_literal, port_test}
use Rattle.fws_ios_read.specs.Ports.{compared_literal, compared_ports}

-- the literal of a comparison is that of its ports
pub compared_so : (place : Place) (word : PortWord) (port : ℕ) → compared_literal word (port_test place (compared_ports word port)) ≡ port_literal place word port
compared_so place ports.Equal port = refl
compared_so place ports.Unequal port = refl
compared_so place ports.Less port = refl
compared_so place ports.Greater port = refl
compared_so place ports.Range port = refl
