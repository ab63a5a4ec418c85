-- The addresses of interfaces as ranges of one address each.
use Rattle.std.proofs.Common.{◌≡◌, ◌≤◌, ℕ, Bool, ◌||◌, ◌&&◌, nat_eq, nat_le, List, [], ◌∷◌, map, refl, sym, ◌∙◌, inl, inr, arith, eq-eqb}
use Rattle.std.proofs.lemmas.Bool.{leb-true, le-leb, and_parts, and_from, cases_Bool, eqb-true}
use Rattle.std.proofs.lemmas.List.Folds.{list_any-append}
use Rattle.std.specs.List.{list_any}
use Rattle.fws_iv.specs.Ivs.{in_part, has}
use Rattle.fws_net.specs.declared.site.Address.{Address}
use Rattle.fws_net.specs.declared.site.Iface.{Iface}
use Rattle.fws_net.specs.Faces.{host_range, own_ranges, all_own_ranges}
use Rattle.fws_net.specs.Routes.{has_addr}

-- a range of one number
alone : (a v : ℕ) → (nat_le a v && nat_le v a) ≡ nat_eq a v
alone a v = elim (cases_Bool (nat_le a v && nat_le v a)) [
  | inl t ↦ let p = and_parts (nat_le a v) (nat_le v a) t in
      let low : a ≤ v = leb-true a v p.0 in
      let high : v ≤ a = leb-true v a p.1 in
      t ∙ sym (eq-eqb a v (omega arith))
  | inr n ↦ elim (cases_Bool (nat_eq a v)) [
    | inl e ↦ let q : a ≡ v = eqb-true a v e in and_from (nat_le a v) (nat_le v a) (le-leb a v (omega arith)) (le-leb v a (omega arith)) ∙ sym e
    | inr m ↦ n ∙ sym m
  ]
]

both : {a b c d : Bool} → a ≡ b → c ≡ d → (a || c) ≡ (b || d)
both e f = cc

has_own : (addrs : List Address) (v : ℕ) → has (map host_range addrs) v ≡ list_any (λ own. nat_eq own.addr v) addrs
has_own [] v = refl
has_own (own ∷ addrs) v = both (alone own.addr v) (has_own addrs v)

pub has_all_own : (faces : List Iface) (v : ℕ) → has (all_own_ranges faces) v ≡ list_any (λ face. has_addr face v) faces
has_all_own [] v = refl
has_all_own (face ∷ faces) v = list_any-append (λ x. in_part x v) (own_ranges face) (all_own_ranges faces) ∙ both (has_own face.addrs v) (has_all_own faces v)
