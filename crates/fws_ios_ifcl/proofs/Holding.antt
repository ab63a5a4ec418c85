-- Conditions of interfaces and ends hold exactly of the packets that have them.
use Rattle.std.proofs.Common.{◌≡◌, ℕ, Bool, true, false, ◌&&◌, nat_eq, Option, Some, None, List, [], ◌∷◌, ◌++◌, if◌then◌else◌, arith, refl, ap, ◌∙◌}
use Rattle.std.proofs.lemmas.Bool.Decides.{nat_tests}
use Rattle.std.proofs.Math.Bool.{and-true}
use Rattle.std.specs.Option.{option_map_or}
use Rattle.fws_iv.specs.Ivs.{has}
use Rattle.fws_net.specs.declared.condition.Lit.{Lit}
use Rattle.fws_net.specs.declared.condition.Test.TheVariants as tests
use Rattle.fws_net.specs.declared.outcome.End.{End}
use Rattle.fws_net.specs.declared.view.View.{View}
use Rattle.fws_net.specs.Conditions.{holds, is_shown}
use Rattle.fws_net.specs.Fates.{has_ports}
use Rattle.fws_rules.specs.Literals.{literals, one, positive, protocol_literal}
use Rattle.fws_ios.specs.Walk.{is_end, is_of_proto}
use Rattle.fws_ios_ifcl.specs.Blocks.{static_cond}

-- One number

-- one number alone is a member
single : (n x : ℕ) → has (one n n) x ≡ nat_eq n x
single n x = grind (arith, nat_tests)

single_turned : (n x : ℕ) → has (one n n) x ≡ nat_eq x n
single_turned n x = grind (arith, nat_tests)

-- Interfaces

-- an interface that is shown is this one
pub shown_alone : (face : ℕ) (entry : Option ℕ) → (is_shown entry (one face face) && true) ≡ option_map_or (nat_eq face) entry false
shown_alone face None = refl
shown_alone face (Some n) = and-true (has (one face face) n) ∙ single face n

-- Ends

-- what is tested of an end: an address, and a port where there are ports
address_tested : (addr x : ℕ) → (has (one addr addr) x && true) ≡ (nat_eq addr x && true)
address_tested addr x = ap (λ b. b && true) (single addr x)

port_tested : (h : Bool) (addr x port y : ℕ)
    → (has (one addr addr) x && ((h && has (one port port) y) && true)) ≡ (nat_eq addr x && (h && nat_eq port y))
port_tested h addr x port y =
    ap (λ b. b && ((h && has (one port port) y) && true)) (single addr x)
    ∙ ap (λ b. nat_eq addr x && ((h && b) && true)) (single port y)
    ∙ ap (λ b. nat_eq addr x && b) (and-true (h && nat_eq port y))

-- behind a test of the protocol
behind_protocol : (m n : ℕ) (x y : Bool) → x ≡ y → (has (one m m) n && x) ≡ (nat_eq n m && y)
behind_protocol m n x y is = ap (λ b. b && x) (single_turned m n) ∙ ap (λ b. nat_eq n m && b) is

-- a packet comes from an end, or goes to it
abbrev pub is_there : Bool → Option ℕ → End → View → Bool
is_there true proto e v = is_of_proto proto v.packet.proto && is_end e v.packet.proto v.packet.src v.packet.sport
is_there false proto e v = is_of_proto proto v.packet.proto && is_end e v.packet.proto v.packet.dst v.packet.dport

-- the conditions of an end, by its address and port
abbrev end_cond : Bool → Option ℕ → ℕ → Option ℕ → List Lit
end_cond outward proto addr port =
    literals false (protocol_literal proto)
    ++ positive (if outward then tests.Src (one addr addr) else tests.Dst (one addr addr))
    ∷ option_map_or (λ n. positive (if outward then tests.Sport (one n n) else tests.Dport (one n n)) ∷ []) port []

abbrev meets_end : Option ℕ → ℕ → Option ℕ → ℕ → ℕ → ℕ → Bool
meets_end proto addr port n x y = is_of_proto proto n && (nat_eq addr x && option_map_or (λ m. has_ports n && nat_eq m y) port true)

source_holds : (proto : Option ℕ) (addr : ℕ) (port : Option ℕ) (v : View)
    → holds (end_cond true proto addr port) v ≡ meets_end proto addr port v.packet.proto v.packet.src v.packet.sport
source_holds None addr None v = address_tested addr v.packet.src
source_holds None addr (Some port) v = port_tested (has_ports v.packet.proto) addr v.packet.src port v.packet.sport
source_holds (Some m) addr None v = behind_protocol m v.packet.proto _ _ (address_tested addr v.packet.src)
source_holds (Some m) addr (Some port) v = behind_protocol m v.packet.proto _ _ (port_tested (has_ports v.packet.proto) addr v.packet.src port v.packet.sport)

destination_holds : (proto : Option ℕ) (addr : ℕ) (port : Option ℕ) (v : View)
    → holds (end_cond false proto addr port) v ≡ meets_end proto addr port v.packet.proto v.packet.dst v.packet.dport
destination_holds None addr None v = address_tested addr v.packet.dst
destination_holds None addr (Some port) v = port_tested (has_ports v.packet.proto) addr v.packet.dst port v.packet.dport
destination_holds (Some m) addr None v = behind_protocol m v.packet.proto _ _ (address_tested addr v.packet.dst)
destination_holds (Some m) addr (Some port) v = behind_protocol m v.packet.proto _ _ (port_tested (has_ports v.packet.proto) addr v.packet.dst port v.packet.dport)

pub static_holds : (outward : Bool) (proto : Option ℕ) (e : End) (v : View) → holds (static_cond outward proto e) v ≡ is_there outward proto e v
static_holds true proto e v = source_holds proto e.addr e.port v
static_holds false proto e v = destination_holds proto e.addr e.port v
