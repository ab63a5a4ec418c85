-- The sets of kids can be tested.
use Rattle.std.proofs.Common.{◌≡◌, ℕ, zero, suc, ◌+◌, ◌<◌, ◌≤◌, Bool, true, false, cond, Option, Some, None, List, [], ◌∷◌, length, get_or, slice_get, inl, inr, refl, sym, ◌∙◌, ap, subst, arith}
use Rattle.std.proofs.lemmas.Bool.{cases_Bool, cond-true, cond-false, false≢true, false_from_ne_true}
use Rattle.std.proofs.lemmas.List.Sums.{sum_by-cons, get_or-le-sum_by}
use Rattle.std.proofs.lemmas.List.Elements.{All-from_recursion}
use Rattle.std.proofs.lemmas.Option.{none-some, same_Some, slice_get-get_or, slice_get_within}
use Rattle.std.specs.List.{count_by}
use Rattle.std.specs.Option.{option_map}
use Rattle.std.specs.Prelude.{nat_eq, nat_le, slice_index, slice_index_or, All}
use Rattle.fws_iv.specs.Ivs.{has}
use Rattle.fws_net.specs.declared.outcome.Outcome.{Outcome}
use Rattle.fws_net.specs.declared.site.Site.{Site}
use Rattle.fws_net.specs.Points.{tops_of}
use Rattle.fws_net.specs.Routes.{IsSound}
use Rattle.fws_tree.specs.declared.node.Kid.{Kid}
use Rattle.fws_tree.specs.declared.node.Node.{Node}
use Rattle.fws_tree.specs.declared.node.Node.TheVariants.{Cut}
use Rattle.fws_tree_seen.specs.declared.field.PacketField.{PacketField}
use Rattle.fws_tree_seen.specs.declared.seen.Seen.TheVariants.{Entered}
use Rattle.fws_tree_seen.specs.Cuts.{IsCutNode, PartValues}
use Rattle.fws_tree_seen.specs.Fields.{top_of}
use Rattle.fws_tree_seen.specs.Shown.{seen_field}
use Rattle.fws_tree_seen.specs.SightLaws.{SeenFieldsAgree}
use Rattle.fws_pf_put_filter.specs.declared.tested.Tested.{Tested}
use Rattle.fws_pf_put_filter.specs.declared.tested.Tested.TheVariants.{Entry, Field}
use Rattle.fws_pf_put_filter.specs.Conds.{tested_at, IsTestable}
use Rattle.fws_pf_put_filter.specs.Pieces.{IsProper}
use Rattle.fws_pf_put_filter.proofs.Moving.{of_site}

-- ---- sets of kids

counted_in : (p : Kid → Bool) (kids : List Kid) (i : ℕ) (d : Kid) → i < length kids → p (get_or kids i d) ≡ true → 1 ≤ count_by p kids
counted_in p kids i d lt e =
    let le = get_or-le-sum_by (λ x. cond (p x) 1 0) kids i d lt in
    let one : ◌≡◌ {A = ℕ} (cond (p (get_or kids i d)) 1 0) 1 = ap (λ b. cond b 1 0) e in omega (arith, le, one)

counted_twice : (p : Kid → Bool) (x : Kid) (kids : List Kid) (i : ℕ) (d : Kid) → i < length kids → p x ≡ true → p (get_or kids i d) ≡ true → 2 ≤ count_by p (x ∷ kids)
counted_twice p x kids i d lt e f =
    let more = counted_in p kids i d lt f in
    let s = sum_by-cons (λ x. cond (p x) 1 0) x kids in
    let one : ◌≡◌ {A = ℕ} (cond (p x) 1 0) 1 = ap (λ b. cond b 1 0) e in omega (arith, more, s, one)

at_most_one : (b : Bool) → cond b 1 0 ≤ 1
at_most_one true = omega arith
at_most_one false = omega arith

-- of the values of another kid each kid lacks all
lacks_other : (top : ℕ) (kids : List Kid) → PartValues top kids → 2 ≤ length kids → ((i : ℕ) (kid : Kid) → slice_get kids i ≡ Some kid → (v : ℕ) × (has kid.set v ≡ true))
    → ((i v : ℕ) (kid : Kid) → slice_get kids i ≡ Some kid → has kid.set v ≡ true → v ≤ top)
    → (k : ℕ) (d : Kid) → k < length kids → (v : ℕ) × (v ≤ top) × (has (slice_index_or kids k d).set v ≡ false)
lacks_other top [] parted many filled within k d lt = absurd (omega arith)
lacks_other top (x ∷ kids) parted many filled within zero d lt =
    let other = slice_index_or kids 0 d in
    let there : slice_get kids 0 ≡ Some other = slice_get-get_or kids 0 d (omega arith) in
    let v = filled 1 other there in (
      v.0,
      within 1 v.0 other there v.1,
      false_from_ne_true (has x.set v.0) (λ y.
          let twice = counted_twice (λ kid. has kid.set v.0) x kids 0 d (omega arith) y v.1 in
          let n = parted v.0 in
          let most = at_most_one (nat_le v.0 top) in absurd (omega (arith, twice, n, most))),
    )
lacks_other top (x ∷ kids) parted many filled within (suc k) d lt =
    let v = filled 0 x refl in (
      v.0,
      within 0 v.0 x refl v.1,
      false_from_ne_true (has (slice_index_or kids k d).set v.0) (λ y.
          let twice = counted_twice (λ kid. has kid.set v.0) x kids k d (omega arith) v.1 y in
          let n = parted v.0 in
          let most = at_most_one (nat_le v.0 top) in absurd (omega (arith, twice, n, most))),
    )

-- the sets of a cut are proper
proper_kids : (agree : SeenFieldsAgree) (site : Site) (tops : List ℕ) (leaves : List Outcome) (nodes : List Node) (at f : ℕ) (kids : List Kid) → tops ≡ tops_of site
    → IsCutNode tops leaves nodes at f kids → (field : PacketField) → seen_field Entered f ≡ Some field → All (λ kid. IsProper field kid.set) kids
proper_kids agree site tops leaves nodes at f kids is node field e = λ k d lt.
    let top : slice_index tops f ≡ top_of field = ap (λ l. slice_index l f) is ∙ (agree Entered f field e).top site in
    let kid = slice_index_or kids k d in
    let there : slice_get kids k ≡ Some kid = slice_get-get_or kids k d lt in
    let lacks = lacks_other (slice_index tops f) kids node.parted node.many node.filled node.within k d lt in
    record {
      within = λ v h. subst (λ n. v ≤ n) top (node.within k v kid there h);
      some = node.filled k kid there;
      lacks = (lacks.0, subst (λ n. lacks.0 ≤ n) top lacks.1, lacks.2);
    }

field_at : (site : Site) (f : ℕ) (field : PacketField) → tested_at site f ≡ Some (Field field) → seen_field Entered f ≡ Some field
field_at site f field e = elim (cases_Bool (nat_eq f 0)) [
  | inl y ↦ absurd (false≢true (ap is_field (same_Some (Entry (length site.faces + 1)) (Field field)
      (sym (cond-true (nat_eq f 0) (Some (Entry (length site.faces + 1))) (option_map Field (seen_field Entered f)) y) ∙ e))))
  | inr z ↦ of_field (seen_field Entered f) (sym (cond-false (nat_eq f 0) (Some (Entry (length site.faces + 1))) (option_map Field (seen_field Entered f)) z) ∙ e)
]
  where
    is_field : Tested → Bool
    is_field (Entry n) = false
    is_field (Field field) = true

    the_field : Tested → PacketField
    the_field (Entry n) = field
    the_field (Field g) = g

    of_field : (o : Option PacketField) → option_map Field o ≡ Some (Field field) → o ≡ Some field
    of_field None e = absurd (none-some (Field field) e)
    of_field (Some g) e = ap Some (ap the_field (same_Some (Field g) (Field field) e))

pub testable_kids : (agree : SeenFieldsAgree) (site : Site) (tops : List ℕ) (leaves : List Outcome) (nodes : List Node) (at f : ℕ) (kids : List Kid) → IsSound site → tops ≡ tops_of site
    → IsCutNode tops leaves nodes at f kids → (tested : Tested) → tested_at site f ≡ Some tested → All (λ kid. IsTestable tested kid.set) kids
testable_kids agree site tops leaves nodes at f kids sound is node (Entry top) e = λ k d lt.
    let few = sound.few_faces in
    let same : top ≡ length site.faces + 1 = of_site site f (Entry top) e in omega (arith, few, same)
testable_kids agree site tops leaves nodes at f kids sound is node (Field field) e = proper_kids agree site tops leaves nodes at f kids is node field (field_at site f field e)

-- the kids are nodes
pub known_kids : (tops : List ℕ) (leaves : List Outcome) (nodes : List Node) (at f : ℕ) (kids : List Kid) → slice_get nodes at ≡ Some (Cut f kids) → IsCutNode tops leaves nodes at f kids → All (λ kid. kid.node < length nodes) kids
known_kids tops leaves nodes at f kids there node = λ i d lt.
    let before = All-from_recursion (λ kid. kid.node < at) kids node.before i d lt in
    let inside = slice_get_within nodes at (Cut f kids) there in omega (arith, before, inside)
