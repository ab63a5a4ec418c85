-- The sources that lists give.
use Rattle.std.proofs.Common.{◌≡◌, ℕ, zero, suc, ◌+◌, ◌<◌, ◌≤◌, Bool, true, false, not, cond, nat_eq, Option, Some, None, List, [], ◌∷◌, refl, sym, ◌∙◌, ap, subst, arith, length, get_or, map, position}
use Rattle.std.proofs.lemmas.Bool.{eq-eqb, eqb-true, false≢true, lt-ltb}
use Rattle.std.proofs.lemmas.List.Quantifiers.{position-Some}
use Rattle.std.proofs.lemmas.Option.{get_or_from_slice_get, slice_get_within}
use Rattle.std.specs.List.{position_or_len}
use Rattle.std.specs.Option.{option_map_or}
use Rattle.std.specs.Prelude.{Contains, slice_get, unwrap_or}
use Rattle.fws_box.specs.Sides.{IsWithin}
use Rattle.fws_ios.specs.declared.config.IosConfig.{IosConfig}
use Rattle.fws_ios.specs.declared.config.IosList.{IosList}
use Rattle.fws_ios.specs.declared.config.IosNat.TheVariants.{List as Listed}
use Rattle.fws_ios.specs.Walk.{first_end, listed_end, outer_end, permits}
use Rattle.fws_ios_put_entries.specs.Seen.{IsSeenAt}
use Rattle.fws_ios_put_sources.specs.Lists.{AreListsFrom, WritesHost}
use Rattle.fws_ios_put_sources.specs.Picking.{place_in, place_of, HasSource}
use Rattle.fws_net.specs.declared.connection.Kind.TheVariants.{New}
use Rattle.fws_net.specs.declared.outcome.End.{End}
use Rattle.fws_net.specs.declared.outcome.Outcome.{Outcome}
use Rattle.fws_net.specs.declared.outcome.Outcome.TheVariants.{Accept}
use Rattle.fws_net.specs.declared.outcome.Rewrite.{Rewrite}
use Rattle.fws_net.specs.declared.packet.Packet.{Packet}
use Rattle.fws_net.specs.declared.site.Site.{Site}
use Rattle.fws_net.specs.declared.transit.Transit.{Transit}
use Rattle.fws_net.specs.Ends.{host_end}
use Rattle.fws_net.specs.Points.{tops_of}
use Rattle.fws_tree.specs.Plain.{Plain, value}
use Rattle.fws_ios_put_sources.proofs.Finding.{AreFound}

-- ---- places

some_here : (v : ℕ) (xs : List ℕ) (k : ℕ) → k < length xs → get_or xs k v ≡ v → position_or_len (nat_eq v) xs < length xs
some_here v [] k lt e = absurd (omega arith)
some_here v (x ∷ xs) k lt e = by (nat_eq v x) refl k lt e (λ j low is. some_here v xs j low is)
  where
    by : (b : Bool) → nat_eq v x ≡ b → (j : ℕ) → j < length (x ∷ xs) → get_or (x ∷ xs) j v ≡ v
        → ((i : ℕ) → i < length xs → get_or xs i v ≡ v → position_or_len (nat_eq v) xs < length xs)
        → cond (not (nat_eq v x)) (1 + position_or_len (nat_eq v) xs) 0 < length (x ∷ xs)
    by true here j low is later = let at : cond (not (nat_eq v x)) (1 + position_or_len (nat_eq v) xs) 0 ≡ 0 = ap (λ b. cond (not b) (1 + position_or_len (nat_eq v) xs) 0) here in omega (arith, at)
    by false here zero low is later = absurd (false≢true (sym here ∙ eq-eqb v x (sym is)))
    by false here (suc j) low is later =
        let at : cond (not (nat_eq v x)) (1 + position_or_len (nat_eq v) xs) 0 ≡ 1 + position_or_len (nat_eq v) xs = ap (λ b. cond (not b) (1 + position_or_len (nat_eq v) xs) 0) here in
        let below : position_or_len (nat_eq v) xs < length xs = later j (omega (arith, low)) is in
        omega (arith, at, below)

-- the place of an address that is there
pub record IsPlaced (addrs : List ℕ) (v : ℕ) : Type 0 where
  pub low : place_in addrs v < length addrs
  pub at : get_or addrs (place_in addrs v) 0 ≡ v

placed : (addrs : List ℕ) (v : ℕ) → Contains addrs v → IsPlaced addrs v
placed addrs v there =
    let below : position_or_len (nat_eq v) addrs < length addrs = some_here v addrs there.0 there.1 there.2 in
    let found : position (nat_eq v) addrs ≡ Some (position_or_len (nat_eq v) addrs)
    = ap (λ b. cond b (Some (position_or_len (nat_eq v) addrs)) None) (lt-ltb (position_or_len (nat_eq v) addrs) (length addrs) below) in
    let is : place_in addrs v ≡ position_or_len (nat_eq v) addrs = ap (λ o. unwrap_or o (length addrs)) found in
    let passes = position-Some (nat_eq v) addrs (position_or_len (nat_eq v) addrs) 0 found in
    record {
      low = subst (λ k. k < length addrs) (sym is) below;
      at = ap (λ k. get_or addrs k 0) is ∙ sym (eqb-true v (get_or addrs (position_or_len (nat_eq v) addrs) 0) passes.1);
    }

-- the source of the list at the packet's place is the packet's, and behind all lists none is written
pub source_here : (addrs : List ℕ) (w : Rewrite) → HasSource addrs (Accept w) → WritesHost w → (j a : ℕ) → slice_get addrs j ≡ Some a → j ≡ place_of addrs w
    → w.src ≡ Some (host_end a None)
source_here addrs w sources host j a there is = by w.src refl is
  where
    by : (s : Option End) → w.src ≡ s → j ≡ option_map_or (λ e. place_in addrs e.addr) s (length addrs) → w.src ≡ Some (host_end a None)
    by None src at = absurd (let low = slice_get_within addrs j a there in omega (arith, low, at))
    by (Some e) src at =
        let p : IsPlaced addrs e.addr = placed addrs e.addr (sources w e refl src) in
        let same : e.addr ≡ a = sym p.at ∙ ap (λ k. get_or addrs k 0) (sym at) ∙ get_or_from_slice_get addrs j a 0 there in
        src ∙ ap Some (host e src) ∙ ap (λ x. Some (host_end x None)) same

pub source_none : (addrs : List ℕ) (w : Rewrite) → HasSource addrs (Accept w) → length addrs ≤ place_of addrs w → w.src ≡ None
source_none addrs w sources le = by w.src refl le
  where
    by : (s : Option End) → w.src ≡ s → length addrs ≤ option_map_or (λ e. place_in addrs e.addr) s (length addrs) → w.src ≡ None
    by None src at = src
    by (Some e) src at = absurd (let low = (placed addrs e.addr (sources w e refl src)).low in omega (arith, low, at))

-- ---- translations

-- no static gives a source
pub no_outer : (name : ℕ → List ℕ) (p : Packet) (given : List ℕ) → first_end (outer_end p) (map (λ a. Listed (name a) a) given) ≡ None
no_outer name p [] = refl
no_outer name p (a ∷ given) = no_outer name p given

past : (a b : ℕ) → a ≤ b → nat_eq a b ≡ false → suc a ≤ b
past a b le ne = let apart : a ≡ b → ⊥ = λ e. false≢true (sym ne ∙ eq-eqb a b e) in omega (arith, apart)

-- the lists from a place on give a packet its source, where those ahead give it none
pub ends_from : (name : ℕ → List ℕ) (site : Site) (t : Plain Outcome) (addrs : List ℕ) (c : IosConfig) (m : Transit) (x : List ℕ) (w : Rewrite)
    → IsWithin (tops_of site) x → IsSeenAt m.packet x → value t x ≡ Some (Accept w) → (given : List ℕ) (ls : List IosList) (place : ℕ)
    → AreFound name c.lists given ls → AreListsFrom site t addrs place given ls → place ≤ place_of addrs w
    → ((j a : ℕ) → slice_get given j ≡ Some a → place + j ≡ place_of addrs w → w.src ≡ Some (host_end a None))
    → (place + length given ≤ place_of addrs w → w.src ≡ None)
    → first_end (listed_end c site New m) (map (λ a. Listed (name a) a) given) ≡ w.src
ends_from name site t addrs c m x w inside seen e [] [] place found lists le here none = sym (none (omega (arith, le)))
ends_from name site t addrs c m x w inside seen e [] (l ∷ ls) place found lists le here none = absurd found
ends_from name site t addrs c m x w inside seen e (a ∷ given) [] place found lists le here none = absurd found
ends_from name site t addrs c m x w inside seen e (a ∷ given) (l ∷ ls) place found lists le here none =
    ap (λ b. option_map_or Some (cond b (Some (host_end a None)) None) rest) (ap (λ o. option_map_or (λ (f : IosList). permits site New true f.entries m) o false) found.0 ∙ told)
    ∙ by (nat_eq place (place_of addrs w)) refl (λ other.
    ends_from name site t addrs c m x w inside seen e given ls (suc place) found.1 lists.1 (past place (place_of addrs w) le other)
    (λ j b there is. here (suc j) b there (omega (arith, is))) (λ more. none (omega (arith, more))))
  where
    rest : Option End
    rest = first_end (listed_end c site New m) (map (λ b. Listed (name b) b) given)

    told : permits site New true l.entries m ≡ nat_eq place (place_of addrs w)
    told = lists.0.entries.tell m x w inside seen e le

    by : (b : Bool) → nat_eq place (place_of addrs w) ≡ b → (nat_eq place (place_of addrs w) ≡ false → rest ≡ w.src)
        → option_map_or Some (cond b (Some (host_end a None)) None) rest ≡ w.src
    by true same later = sym (here 0 a refl (let is = eqb-true place (place_of addrs w) same in omega (arith, is)))
    by false other later = later other
