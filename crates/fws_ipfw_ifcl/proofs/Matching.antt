-- A redirect's condition holds exactly of the packets that meet the redirect.
use Rattle.std.proofs.Common.{◌≡◌, ℕ, ◌≤◌, Bool, true, false, cond, ◌&&◌, ◌||◌, nat_eq, nat_le, Option, Some, None, is_none, is_some, List, [], ◌∷◌, ◌++◌, arith, refl, sym, ap, ◌∙◌, subst, eqb-true}
use Rattle.std.proofs.lemmas.Bool.{false≢true, le-leb, leb-true, and_parts, and_from, eq-eqb}
use Rattle.std.specs.List.{find, filter, list_all}
use Rattle.std.specs.Option.{option_map_or}
use Rattle.fws_iv.specs.Ivs.{has}
use Rattle.fws_net.specs.declared.condition.Test.TheVariants as tests
use Rattle.fws_net.specs.declared.view.View.{View}
use Rattle.fws_net.specs.Conditions.{holds}
use Rattle.fws_net.specs.Fates.{has_ports}
use Rattle.fws_rules.specs.Literals.{one}
use Rattle.fws_ipfw.specs.declared.config.Redirect.{Redirect}
use Rattle.fws_ipfw.specs.RuleText.{has_ports as names_ports}
use Rattle.fws_ipfw.specs.Soundness.{redirect_fits}
use Rattle.fws_ipfw.specs.Walk.{goes_to_port, goes_to_addr, comes_from_port, comes_from_addr, or_else, redirect_in, redirect_out}
use Rattle.fws_ipfw_ifcl.specs.Translating.{is_of_ports, is_of_address, by_trial, just, asking}

-- One number

-- two truths of which each follows from the other
same_truth : (a b : Bool) → (a ≡ true → b ≡ true) → (b ≡ true → a ≡ true) → a ≡ b
same_truth true b there back = sym (there refl)
same_truth false true there back = back refl
same_truth false false there back = refl

-- a truth or none
or_none : (b : Bool) → (b || false) ≡ b
or_none true = refl
or_none false = refl

-- a number from another one to it is that one
both_ways : (n x : ℕ) → (nat_le n x && nat_le x n) ≡ nat_eq n x
both_ways n x =
    same_truth (nat_le n x && nat_le x n) (nat_eq n x)
    (λ h. let both = and_parts (nat_le n x) (nat_le x n) h in
    let low : n ≤ x = leb-true n x both.0 in
    let high : x ≤ n = leb-true x n both.1 in
    eq-eqb n x (omega (arith, low, high)))
    (λ h. let same : n ≡ x = eqb-true n x h in
    let low : n ≤ x = omega (arith, same) in
    let high : x ≤ n = omega (arith, same) in
    and_from (nat_le n x) (nat_le x n) (le-leb n x low) (le-leb x n high))

-- equality of numbers, turned round
turned : (n x : ℕ) → nat_eq n x ≡ nat_eq x n
turned n x =
    same_truth (nat_eq n x) (nat_eq x n)
    (λ h. eq-eqb x n (sym (eqb-true n x h)))
    (λ h. eq-eqb n x (sym (eqb-true x n h)))

-- one number alone is a member
single : (n x : ℕ) → has (one n n) x ≡ nat_eq n x
single n x = or_none (nat_le n x && nat_le x n) ∙ both_ways n x

-- the same, turned round
single_turned : (n x : ℕ) → has (one n n) x ≡ nat_eq x n
single_turned n x = single n x ∙ turned n x

-- What fits

-- a protocol has a port at the end, and addresses have none
abbrev Suits : Option ℕ → Option ℕ → Type 0
Suits (Some n) (Some port) = (nat_eq n 6 || nat_eq n 17) ≡ true
Suits (Some n) None = ⊥
Suits None (Some port) = ⊥
Suits None None = Unit {0}

-- a protocol with the ports of both ends
abbrev fitting : Option ℕ → Option ℕ → Option ℕ → Bool
fitting proto local public = (names_ports proto && is_some local && is_some public) || (is_none proto && is_none local && is_none public)

-- of a protocol with ports at both ends
all_three : (b : Bool) → ((b && true && true) || false) ≡ true → b ≡ true
all_three true is = refl
all_three false is = is

-- no port at the inner end
not_first : (b c : Bool) → ((b && false && c) || false) ≡ true → ⊥
not_first true c is = false≢true is
not_first false c is = false≢true is

-- no port at the outer end
not_second : (b : Bool) → ((b && true && false) || false) ≡ true → ⊥
not_second true is = false≢true is
not_second false is = false≢true is

-- each end suits the protocol
suits : (proto local public : Option ℕ) → fitting proto local public ≡ true → Suits proto local × Suits proto public
suits None None None is = (tt, tt)
suits None None (Some b) is = absurd (false≢true is)
suits None (Some a) public is = absurd (false≢true is)
suits (Some n) None public is = absurd (not_first (nat_eq n 6 || nat_eq n 17) (is_some public) is)
suits (Some n) (Some a) None is = absurd (not_second (nat_eq n 6 || nat_eq n 17) is)
suits (Some n) (Some a) (Some b) is =
    let ports = all_three (nat_eq n 6 || nat_eq n 17) is in
    (ports, ports)

-- Literals

-- three tests, of which the last asks for ports
ported : (a b c h d e f : Bool) → d ≡ a → e ≡ b → f ≡ c → (a ≡ true → h ≡ true) → (a && (b && c)) ≡ (d && (e && ((h && f) && true)))
ported a b c h d e f first second third ports =
    at a b c h ports
    ∙ ap (λ x. x && (b && ((h && c) && true))) (sym first) ∙ ap (λ x. d && (x && ((h && c) && true))) (sym second) ∙ ap (λ x. d && (e && ((h && x) && true))) (sym third)
  where
    at : (a b c h : Bool) → (a ≡ true → h ≡ true) → (a && (b && c)) ≡ (a && (b && ((h && c) && true)))
    at false b c h ports = refl
    at true false c h ports = refl
    at true true true h ports = sym (ap (λ x. (x && true) && true) (ports refl))
    at true true false h ports = sym (ap (λ x. (x && false) && true) (ports refl))

-- a packet of a protocol with ports has ports
with_ports : (n x : ℕ) → (nat_eq n 6 || nat_eq n 17) ≡ true → nat_eq x n ≡ true → has_ports x ≡ true
with_ports n x ports is = subst (λ y. has_ports y ≡ true) (sym (eqb-true x n is)) ports

-- a test alone
plain : (a d : Bool) → d ≡ a → (a && true) ≡ (d && true)
plain a d is = ap (λ x. x && true) (sym is)

-- the packet goes to an end, where ports are redirected
to_ports : (v : View) (proto port : Option ℕ) (addr : ℕ) → Suits proto port
    → (option_map_or (nat_eq v.packet.proto) proto false && (nat_eq addr v.packet.dst && option_map_or (nat_eq v.packet.dport) port true))
    ≡ (is_some proto && holds (just tests.Proto proto ++ just tests.Dst (Some addr) ++ just tests.Dport port) v)
to_ports v (Some n) (Some q) addr ports =
    ported (nat_eq v.packet.proto n) (nat_eq addr v.packet.dst) (nat_eq v.packet.dport q) (has_ports v.packet.proto)
    (has (one n n) v.packet.proto) (has (one addr addr) v.packet.dst) (has (one q q) v.packet.dport)
    (single_turned n v.packet.proto) (single addr v.packet.dst) (single_turned q v.packet.dport) (with_ports n v.packet.proto ports)
to_ports v (Some n) None addr ports = absurd ports
to_ports v None (Some q) addr ports = absurd ports
to_ports v None None addr ports = refl

-- the packet goes to an end, where addresses are redirected
to_addr : (v : View) (proto port : Option ℕ) (addr : ℕ) → Suits proto port
    → (is_none proto && (nat_eq addr v.packet.dst && option_map_or (nat_eq v.packet.dport) port true))
    ≡ (is_none proto && holds (just tests.Proto proto ++ just tests.Dst (Some addr) ++ just tests.Dport port) v)
to_addr v (Some n) port addr ports = refl
to_addr v None (Some q) addr ports = absurd ports
to_addr v None None addr ports = plain (nat_eq addr v.packet.dst) (has (one addr addr) v.packet.dst) (single addr v.packet.dst)

-- the packet comes from an end, where ports are redirected
from_ports : (v : View) (proto port : Option ℕ) (addr : ℕ) → Suits proto port
    → (option_map_or (nat_eq v.packet.proto) proto false && (nat_eq addr v.packet.src && option_map_or (nat_eq v.packet.sport) port true))
    ≡ (is_some proto && holds (just tests.Proto proto ++ just tests.Src (Some addr) ++ just tests.Sport port) v)
from_ports v (Some n) (Some q) addr ports =
    ported (nat_eq v.packet.proto n) (nat_eq addr v.packet.src) (nat_eq v.packet.sport q) (has_ports v.packet.proto)
    (has (one n n) v.packet.proto) (has (one addr addr) v.packet.src) (has (one q q) v.packet.sport)
    (single_turned n v.packet.proto) (single addr v.packet.src) (single_turned q v.packet.sport) (with_ports n v.packet.proto ports)
from_ports v (Some n) None addr ports = absurd ports
from_ports v None (Some q) addr ports = absurd ports
from_ports v None None addr ports = refl

-- the packet comes from an end, where addresses are redirected
from_addr : (v : View) (proto port : Option ℕ) (addr : ℕ) → Suits proto port
    → (is_none proto && (nat_eq addr v.packet.src && option_map_or (nat_eq v.packet.sport) port true))
    ≡ (is_none proto && holds (just tests.Proto proto ++ just tests.Src (Some addr) ++ just tests.Sport port) v)
from_addr v (Some n) port addr ports = refl
from_addr v None (Some q) addr ports = absurd ports
from_addr v None None addr ports = plain (nat_eq addr v.packet.src) (has (one addr addr) v.packet.src) (single addr v.packet.src)

-- The first of a list

-- the first one, where it is kept and where it isn't
find_chosen : {X : Type 0} (f : X → Bool) (b : Bool) (x : X) (kept : List X) (o : Option X) → find f kept ≡ o
    → find f (cond b (x ∷ kept) kept) ≡ cond (b && f x) (Some x) o
find_chosen f true x kept o is = ap (cond (f x) (Some x)) is
find_chosen f false x kept o is = is

-- those that pass a test, in which the first is found by another
find_filtered : {X : Type 0} (fits test f g : X → Bool) → ((x : X) → fits x ≡ true → g x ≡ (test x && f x))
    → (xs : List X) → list_all fits xs ≡ true → find f (filter test xs) ≡ find g xs
find_filtered fits test f g same [] all = refl
find_filtered fits test f g same (x ∷ xs) all =
    let both = and_parts (fits x) (list_all fits xs) all in
    find_chosen f (test x) x (filter test xs) (find g xs) (find_filtered fits test f g same xs both.1)
    ∙ ap (λ b. cond b (Some x) (find g xs)) (sym (same x both.0))

-- one in front of those that are looked through
or_chosen : (b : Bool) (x : Redirect) (o other : Option Redirect) → cond b (Some x) (or_else o other) ≡ or_else (cond b (Some x) o) other
or_chosen true x o other = refl
or_chosen false x o other = refl

-- the first of two lists
find_behind : (f : Redirect → Bool) (xs ys : List Redirect) → find f (xs ++ ys) ≡ or_else (find f xs) (find f ys)
find_behind f [] ys = refl
find_behind f (x ∷ xs) ys = ap (cond (f x) (Some x)) (find_behind f xs ys) ∙ or_chosen (f x) x (find f xs) (find f ys)

-- a redirect's condition holds
abbrev asked : Bool → View → Redirect → Bool
asked outward v r = holds (asking outward r) v

-- the redirect of a packet that comes in
pub found_in : (v : View) (rs : List Redirect) → list_all redirect_fits rs ≡ true → find (λ r. holds (asking false r) v) (by_trial rs) ≡ redirect_in rs v.packet
found_in v rs all =
    find_behind (asked false v) (filter is_of_ports rs) (filter is_of_address rs)
    ∙ ap (λ o. or_else o (find (asked false v) (filter is_of_address rs)))
    (find_filtered redirect_fits is_of_ports (asked false v) (goes_to_port v.packet)
    (λ r fit. to_ports v r.proto r.public.port r.public.addr (suits r.proto r.local.port r.public.port fit).1) rs all)
    ∙ ap (or_else (find (goes_to_port v.packet) rs))
    (find_filtered redirect_fits is_of_address (asked false v) (goes_to_addr v.packet)
    (λ r fit. to_addr v r.proto r.public.port r.public.addr (suits r.proto r.local.port r.public.port fit).1) rs all)

-- the redirect of a packet that goes out
pub found_out : (v : View) (rs : List Redirect) → list_all redirect_fits rs ≡ true → find (λ r. holds (asking true r) v) (by_trial rs) ≡ redirect_out rs v.packet
found_out v rs all =
    find_behind (asked true v) (filter is_of_ports rs) (filter is_of_address rs)
    ∙ ap (λ o. or_else o (find (asked true v) (filter is_of_address rs)))
    (find_filtered redirect_fits is_of_ports (asked true v) (comes_from_port v.packet)
    (λ r fit. from_ports v r.proto r.local.port r.local.addr (suits r.proto r.local.port r.public.port fit).0) rs all)
    ∙ ap (or_else (find (comes_from_port v.packet) rs))
    (find_filtered redirect_fits is_of_address (asked true v) (comes_from_addr v.packet)
    (λ r fit. from_addr v r.proto r.local.port r.local.addr (suits r.proto r.local.port r.public.port fit).0) rs all)
