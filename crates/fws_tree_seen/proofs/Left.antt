-- The set that is left where no other one is hit.
use Rattle.std.proofs.Common.{◌≡◌, ℕ, ◌+◌, ◌≤◌, Bool, true, false, ◌&&◌, cond, Some, List, [], ◌∷◌, ◌++◌, inl, inr, refl, sym, ◌∙◌, ap, subst, arith}
use Rattle.std.proofs.lemmas.Bool.{cond-true, cases_Bool, or_parts, le-leb}
use Rattle.std.proofs.lemmas.List.Sums.{sum_by-cons}
use Rattle.std.specs.List.{count_by, list_any}
use Rattle.std.specs.Prelude.{nat_le, slice_index}
use Rattle.fws_iv.specs.Ivs.{has}
use Rattle.fws_net.specs.declared.packet.Packet.{Packet}
use Rattle.fws_tree.specs.declared.node.Kid.{Kid}
use Rattle.fws_tree_seen.specs.declared.field.PacketField.{PacketField}
use Rattle.fws_tree_seen.specs.declared.seen.Seen.{Seen}
use Rattle.fws_tree_seen.specs.Cuts.{PartValues}
use Rattle.fws_tree_seen.specs.Fields.{hits, suits, top_of}
use Rattle.fws_tree_seen.specs.Reached.{IsOpen, IsTopped}
use Rattle.fws_tree_seen.specs.Shown.{seen_field, value_of}
use Rattle.fws_tree_seen.proofs.Sees.{has_same, shown_value}

none_counted : {X : Type 0} (p : X → Bool) (xs : List X) → list_any p xs ≡ false → count_by p xs ≡ 0
none_counted p [] e = refl
none_counted p (x ∷ xs) e =
    let parts = or_parts (p x) (list_any p xs) e in
    let a = sum_by-cons (λ x. cond (p x) 1 0) x xs in
    let b = ap (λ x. cond x 1 0) parts.0 in
    let c = none_counted p xs parts.1 in
    a ∙ ap (λ n. n + count_by p xs) b ∙ ap (λ n. 0 + n) c

-- what no other kid has is had by the one that is left
left_over : {X : Type 0} (p : X → Bool) (front back : List X) (other : X) → count_by p (front ++ other ∷ back) ≡ 1 → list_any p (front ++ back) ≡ false → p other ≡ true
left_over p [] back other n e = elim (cases_Bool (p other)) [
  | inl y ↦ y
  | inr z ↦ (let a = sum_by-cons (λ x. cond (p x) 1 0) other back ∙ ap (λ n. n + count_by p back) (ap (λ x. cond x 1 0) z) ∙ ap (λ n. 0 + n) (none_counted p back e) in
      let bad : ◌≡◌ {A = ℕ} 0 1 = sym a ∙ n in absurd (omega (arith, bad)))
]
left_over p (x ∷ front) back other n e =
    let parts = or_parts (p x) (list_any p (front ++ back)) e in
    let a = sum_by-cons (λ x. cond (p x) 1 0) x (front ++ other ∷ back) ∙ ap (λ n. n + count_by p (front ++ other ∷ back)) (ap (λ x. cond x 1 0) parts.0) in
    let z : 0 + count_by p (front ++ other ∷ back) ≡ 1 = sym a ∙ n in
    left_over p front back other (omega (arith, z)) parts.1

not_hit : (kids : List Kid) (b : Bool) (x v : ℕ) → b ≡ true → x ≡ v → list_any (λ kid. b && has kid.set x) kids ≡ false → list_any (λ kid. has kid.set v) kids ≡ false
not_hit kids b x v y e h =
    subst (λ z. list_any (λ kid. has kid.set z) kids ≡ false) e (subst (λ c. list_any (λ kid. c && has kid.set x) kids ≡ false) y h)

-- where no other set is hit, the set that is left is open
pub open_other : (seen : Seen) (tops : List ℕ) (f : ℕ) (field : PacketField) (q : Packet) (front back : List Kid) (other : Kid)
    → seen_field seen f ≡ Some field → slice_index tops f ≡ top_of field → IsTopped tops seen q → PartValues (top_of field) (front ++ other ∷ back)
    → list_any (λ kid. hits field kid.set q) (front ++ back) ≡ false → IsOpen seen q f other.set
open_other seen tops f field q front back other e top-is topped parted none-hit = λ v a s.
    let suit : suits field q.proto ≡ true = sym (has_same seen f field q.proto e) ∙ a in
    let le : v ≤ top_of field = subst (λ n. v ≤ n) top-is (topped f v a s) in
    left_over (λ kid. has kid.set v) front back other (parted v ∙ cond-true (nat_le v (top_of field)) 1 0 (le-leb v (top_of field) le))
    (not_hit (front ++ back) (suits field q.proto) (value_of field q) v suit (shown_value seen f field q v e s) none-hit)
