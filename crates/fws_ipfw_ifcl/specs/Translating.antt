-- The rules of a diagram that translate a packet by an instance.
use Rattle.std.specs.Prelude.{ℕ, ◌+◌, ◌*◌, Bool, true, false, Option, Some, None, is_none, is_some, List, [], ◌∷◌, ◌++◌, length, if◌then◌else◌}
use Rattle.std.specs.List.{filter}
use Rattle.std.specs.Option.{option_map_or}
use Rattle.fws_iv.specs.declared.iv.Iv.{Iv}
use Rattle.fws_net.specs.declared.condition.Lit.{Lit}
use Rattle.fws_net.specs.declared.condition.Test.{Test}
use Rattle.fws_net.specs.declared.condition.Test.TheVariants as tests
use Rattle.fws_net.specs.Ends.{host_end}
use Rattle.fws_ifcl.specs.declared.diagram.Act.{Act}
use Rattle.fws_ifcl.specs.declared.diagram.Act.TheVariants.{Skip, Src, Dst, RecSrc, RecDst}
use Rattle.fws_ifcl.specs.declared.diagram.Rule.{Rule}
use Rattle.fws_rules.specs.Literals.{one, positive, negative}
use Rattle.fws_ifcl_rules.specs.Rules.{ruled, always}
use Rattle.fws_ipfw.specs.declared.config.IpfwNat.{IpfwNat}
use Rattle.fws_ipfw.specs.declared.config.Redirect.{Redirect}

-- Which redirect a packet meets

abbrev pub is_of_ports : Redirect → Bool
is_of_ports r = is_some r.proto

abbrev pub is_of_address : Redirect → Bool
is_of_address r = is_none r.proto

-- the redirects in the order in which they are tried: those of ports, then those of addresses
abbrev pub by_trial : List Redirect → List Redirect
by_trial rs = filter is_of_ports rs ++ filter is_of_address rs

-- this number alone passes the test; without one every number does
abbrev pub just : (List Iv → Test) → Option ℕ → List Lit
just test n = option_map_or (λ value. positive (test (one value value)) ∷ []) n []

-- the packet goes to the outer end
abbrev pub goes_to : Redirect → List Lit
goes_to r = just tests.Proto r.proto ++ just tests.Dst (Some r.public.addr) ++ just tests.Dport r.public.port

-- the packet comes from the inner end
abbrev pub comes_from : Redirect → List Lit
comes_from r = just tests.Proto r.proto ++ just tests.Src (Some r.local.addr) ++ just tests.Sport r.local.port

-- a redirect is for packets that go to its outer end as they come in, and for packets from its inner end as they go out
abbrev pub asking : Bool → Redirect → List Lit
asking outward r = if outward then comes_from r else goes_to r

-- What is written

-- the inner end over the destination as packets come in, and the outer end over the source as they go out
abbrev pub writing : Bool → Redirect → Act
writing outward r = if outward then Src r.public else Dst r.local

-- without a redirect the instance's address over the source as packets go out, and nothing as they come in
abbrev pub aliasing : Bool → ℕ → List Rule
aliasing outward alias = if outward then always (Src (host_end alias None)) ∷ [] else []

abbrev pub aliasing_width : Bool → ℕ
aliasing_width outward = if outward then 1 else 0

-- a rule for each redirect, that skips where its condition holds: the first to this place, each other one two further
abbrev pub choosing_all : Bool → ℕ → List Redirect → List Rule
choosing_all outward to [] = []
choosing_all outward to (r ∷ rs) = ruled (asking outward r) (Skip to) ∷ choosing_all outward (to + 2) rs

-- what is written for each redirect, behind which the walk goes on at the place done
abbrev pub writing_all : Bool → ℕ → List Redirect → List Rule
writing_all outward done [] = []
writing_all outward done (r ∷ rs) = always (writing outward r) ∷ always (Skip done) ∷ writing_all outward done rs

-- rules of which the first has the place at, behind which the walk goes on at the place done: the first redirect whose
-- condition holds is written, and if there is none the alias
abbrev pub redirecting : Bool → ℕ → ℕ → ℕ → List Redirect → List Rule
redirecting outward alias at done rs =
    choosing_all outward (at + (length rs + (aliasing_width outward + 1))) rs
    ++ aliasing outward alias ++ always (Skip done) ∷ writing_all outward done rs

-- how many these are
abbrev pub redirecting_width : Bool → List Redirect → ℕ
redirecting_width outward rs = 3 * length rs + (aliasing_width outward + 1)

-- a packet of a connection gets the end with which it leaves, and the walk goes on at the place done; a new one that goes out
-- skips to the place outwards
abbrev pub tracking : ℕ → ℕ → List Rule
tracking done outwards =
    ruled (negative tests.Outward ∷ []) RecDst ∷ ruled (positive tests.Outward ∷ []) RecSrc
    ∷ ruled (positive tests.Est ∷ []) (Skip done) ∷ ruled (positive tests.Outward ∷ []) (Skip outwards) ∷ []

-- rules of which the first has the place at, behind which the walk goes on at the place done: a packet of a connection has the
-- end with which it leaves, and a new one is translated by the instance
abbrev pub translating_by : ℕ → ℕ → IpfwNat → List Rule
translating_by at done nat =
    tracking done (at + (4 + redirecting_width false (by_trial nat.redirects)))
    ++ redirecting false nat.alias (at + 4) done (by_trial nat.redirects)
    ++ redirecting true nat.alias (at + (4 + redirecting_width false (by_trial nat.redirects))) done (by_trial nat.redirects)

-- without an instance the packet stays as it is
abbrev pub translating : ℕ → ℕ → Option IpfwNat → List Rule
translating at done nat = option_map_or (translating_by at done) nat (always (Skip done) ∷ [])

-- how many these are
abbrev pub translating_width : Option IpfwNat → ℕ
translating_width nat =
    option_map_or (λ n. 4 + (redirecting_width false (by_trial n.redirects) + redirecting_width true (by_trial n.redirects))) nat 1
