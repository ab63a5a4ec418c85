-- Ends that rules hold are among those that are gathered.
use Rattle.std.proofs.Common.{◌≡◌, ℕ, suc, ◌<◌, Bool, true, false, cond, ◌&&◌, ◌||◌, nat_eq, Option, Some, None, IfSome, List, [], ◌∷◌, ◌++◌, length, arith, refl, ap, ◌∙◌, inl, inr}
use Rattle.std.specs.List.{list_any}
use Rattle.std.specs.Option.{option_eq}
use Rattle.std.proofs.lemmas.Bool.{false≢true, cases_Bool, and_parts, and_from, cond-true, cond-false, eqb-true, eq-eqb}
use Rattle.std.proofs.lemmas.List.Folds.{list_any-append}
use Rattle.fws_net.specs.declared.outcome.End.{End}
use Rattle.fws_net.specs.contracts.outcome.End.{the_row}
use Rattle.fws_pfo.specs.declared.config.PfoRule.{PfoRule}
use Rattle.fws_pfo_ifcl.specs.Ends.{same_end, end_of, with_end, gathered, place_of}

-- The same end

port_exact : (x y : Option ℕ) → option_eq nat_eq x y ≡ true → x ≡ y
port_exact None None same = refl
port_exact (Some m) (Some n) same = ap (λ k. Some k) (eqb-true m n same)
port_exact None (Some n) same = absurd (false≢true same)
port_exact (Some m) None same = absurd (false≢true same)

parts_same : (x y : End) → x.addr ≡ y.addr → x.len ≡ y.len → x.port ≡ y.port → x ≡ y
parts_same x y a b c = (the_row).coded.inj x y (rw (a, b, c) refl)

pub end_exact : (x y : End) → same_end x y ≡ true → x ≡ y
end_exact x y same =
    let a = and_parts (nat_eq x.addr y.addr) (nat_eq x.len y.len && option_eq nat_eq x.port y.port) same in
    let b = and_parts (nat_eq x.len y.len) (option_eq nat_eq x.port y.port) a.1 in
    parts_same x y (eqb-true x.addr y.addr a.0) (eqb-true x.len y.len b.0) (port_exact x.port y.port b.1)

port_itself : (x : Option ℕ) → option_eq nat_eq x x ≡ true
port_itself None = refl
port_itself (Some n) = eq-eqb n n refl

end_itself : (e : End) → same_end e e ≡ true
end_itself e =
    and_from (nat_eq e.addr e.addr) (nat_eq e.len e.len && option_eq nat_eq e.port e.port) (eq-eqb e.addr e.addr refl)
    (and_from (nat_eq e.len e.len) (option_eq nat_eq e.port e.port) (eq-eqb e.len e.len refl) (port_itself e.port))

-- Ends that are put

or_one : (a b : Bool) → a ≡ true → (a || b) ≡ true
or_one a b is = ap (λ x. x || b) is

or_other : (a b : Bool) → b ≡ true → (a || b) ≡ true
or_other true b is = refl
or_other false b is = is

among_more : (e : End) (ends : List End) (more : Option End) → list_any (same_end e) ends ≡ true → list_any (same_end e) (with_end ends more) ≡ true
among_more e ends None is = is
among_more e ends (Some other) is = by (list_any (same_end other) ends)
  where
    by : (b : Bool) → list_any (same_end e) (cond b ends (ends ++ other ∷ [])) ≡ true
    by true = is
    by false = list_any-append (same_end e) ends (other ∷ []) ∙ or_one (list_any (same_end e) ends) (list_any (same_end e) (other ∷ [])) is

among_put : (ends : List End) (more : Option End) → IfSome more (λ e. list_any (same_end e) (with_end ends more) ≡ true)
among_put ends None = tt
among_put ends (Some e) = elim (cases_Bool (list_any (same_end e) ends)) [
  | inl is ↦ ap (list_any (same_end e)) (cond-true (list_any (same_end e) ends) ends (ends ++ e ∷ []) is) ∙ is
  | inr lacks ↦ ap (list_any (same_end e)) (cond-false (list_any (same_end e) ends) ends (ends ++ e ∷ []) lacks) ∙ list_any-append (same_end e) ends (e ∷ [])
      ∙ or_other (list_any (same_end e) ends) (same_end e e || false) (or_one (same_end e e) false (end_itself e))
]

among_gathered : (outward : Bool) (e : End) (ends : List End) (rs : List PfoRule) → list_any (same_end e) ends ≡ true → list_any (same_end e) (gathered outward ends rs) ≡ true
among_gathered outward e ends [] is = is
among_gathered outward e ends (r ∷ rs) is = among_gathered outward e (with_end ends (end_of outward r)) rs (among_more e ends (end_of outward r) is)

if_gathered : (outward : Bool) (end : Option End) (ends : List End) (rs : List PfoRule) → IfSome end (λ e. list_any (same_end e) ends ≡ true)
    → IfSome end (λ e. list_any (same_end e) (gathered outward ends rs) ≡ true)
if_gathered outward None ends rs is = tt
if_gathered outward (Some e) ends rs is = among_gathered outward e ends rs is

-- what the first rule holds is among all
pub first_among : (outward : Bool) (ends : List End) (r : PfoRule) (rs : List PfoRule)
    → IfSome (end_of outward r) (λ e. list_any (same_end e) (gathered outward ends (r ∷ rs)) ≡ true)
first_among outward ends r rs = if_gathered outward (end_of outward r) (with_end ends (end_of outward r)) rs (among_put ends (end_of outward r))

-- Places

place_by : (b : Bool) (place count : ℕ) (among : Bool) → (among ≡ true → place < count) → (b || among) ≡ true → cond b 0 (suc place) < suc count
place_by true place count among next is = omega arith
place_by false place count among next is =
    let lt : place < count = next is in
    omega (arith, lt)

pub place_within : (ends : List End) (e : End) → list_any (same_end e) ends ≡ true → place_of ends e < length ends
place_within [] e is = absurd (false≢true is)
place_within (first ∷ ends) e is =
    place_by (same_end e first) (place_of ends e) (length ends) (list_any (same_end e) ends) (place_within ends e) is
