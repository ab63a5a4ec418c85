-- Where packets come.
use Rattle.std.proofs.Common.{◌≡◌, ℕ, ◌-◌, ◌<◌, Bool, true, Some, List, length, slice_get, refl, sym, ◌∙◌, ap, arith}
use Rattle.std.proofs.lemmas.Option.{same_Some}
use Rattle.std.specs.Prelude.{slice_index, slice_set}
use Rattle.fws_box.specs.Sides.{IsWithin}
use Rattle.fws_iv.specs.Ivs.{has}
use Rattle.fws_net.specs.Fates.{has_ports}
use Rattle.fws_tree.specs.declared.node.Kid.{Kid}
use Rattle.fws_tree.specs.Plain.{leaf, value}
use Rattle.fws_tree_seen.specs.Cuts.{IsCutNode}
use Rattle.fws_ios_put_entries.specs.Seen.{IsListed, LookSame}
use Rattle.fws_ios_put_lists.specs.Blocks.{below, Comes, IsPlanned, Scene}
use Rattle.fws_ios_put_lists.proofs.Laws.{NodeLaws}
use Rattle.fws_ios_put_lists.proofs.Points.{kid_value_set, leaf_value, node_value, set_other, set_there, set_within, within_length}

-- ---- points that look the same

same_point : (x : List ℕ) → LookSame x x
same_point x = record { proto = refl; dst = refl; src = refl; dport = λ h. refl; sport = λ h. refl; icmp = λ h. refl }

-- the field doesn't tell in what lists ask for at the point
pub record IsUntold (x : List ℕ) (f : ℕ) : Type 0 where
  pub proto : 1 ≡ f → ⊥
  pub dst : 2 ≡ f → ⊥
  pub src : 4 ≡ f → ⊥
  pub dport : has_ports (slice_index x 1) ≡ true → 3 ≡ f → ⊥
  pub sport : has_ports (slice_index x 1) ≡ true → 5 ≡ f → ⊥
  pub icmp : slice_index x 1 ≡ 1 → 7 ≡ f → ⊥

-- with another value of such a field it looks the same
set_same : (x y : List ℕ) (f v : ℕ) → IsUntold x f → LookSame x y → LookSame x (slice_set y f v)
set_same x y f v h same = record {
  proto = same.proto ∙ sym (set_other y f v 1 h.proto);
  dst = same.dst ∙ sym (set_other y f v 2 h.dst);
  src = same.src ∙ sym (set_other y f v 4 h.src);
  dport = λ has'. same.dport has' ∙ sym (set_other y f v 3 (h.dport has'));
  sport = λ has'. same.sport has' ∙ sym (set_other y f v 5 (h.sport has'));
  icmp = λ is. same.icmp is ∙ sym (set_other y f v 7 (h.icmp is));
}

-- ---- where packets begin

pub come_last : (s : Scene) (x : List ℕ) (b : Bool) → IsPlanned s → IsListed s.tops (value s.tree) → IsWithin s.tops x → value s.tree x ≡ Some b → Comes s (length s.nodes - 1) x b
come_last s x b planned listed within is = λ y inside same. ap (λ u. value u y) (sym planned.shared.last) ∙ sym (listed x y within inside same) ∙ is

-- ---- kids

-- to the kid whose set has the field
pub come_hit : (laws : NodeLaws) (s : Scene) (n f : ℕ) (kids : List Kid) (i : ℕ) (kid : Kid) (x : List ℕ) (b : Bool) → IsPlanned s → n < length s.nodes
    → IsCutNode s.tops s.leaves s.nodes n f kids → slice_get kids i ≡ Some kid → has kid.set (slice_index x f) ≡ true
    → ((y : List ℕ) → LookSame x y → slice_index x f ≡ slice_index y f) → Comes s n x b → Comes s kid.node x b
come_hit laws s n f kids i kid x b planned lt node there has-it told come = λ y within same.
    sym (node_value laws s n f kids i kid (slice_index x f) y planned.shared lt node there has-it within (sym (told y same))) ∙ come y within same

-- to any kid where the field doesn't tell
pub come_any : (laws : NodeLaws) (s : Scene) (n f : ℕ) (kids : List Kid) (i : ℕ) (kid : Kid) (x : List ℕ) (b : Bool) → IsPlanned s → n < length s.nodes
    → IsCutNode s.tops s.leaves s.nodes n f kids → slice_get kids i ≡ Some kid → IsUntold x f → Comes s n x b → Comes s kid.node x b
come_any laws s n f kids i kid x b planned lt node there untold come = λ y within same.
    let member = node.filled i kid there in
    let z : List ℕ = slice_set y f member.0 in
    let inside : f < length y = (let a = node.field in let e = within_length s.tops y within in omega (arith, a, e)) in
    let z-within : IsWithin s.tops z = set_within s.tops y f member.0 within (node.within i member.0 kid there member.1) in
    sym (kid_value_set laws s n f kids i kid member.0 y planned.shared lt node there)
    ∙ sym (node_value laws s n f kids i kid member.0 z planned.shared lt node there member.1 z-within (set_there y f member.0 inside))
    ∙ come z z-within (set_same x y f member.0 untold same)

-- ---- leaves

-- what comes to a leaf has its value
pub leaf_come : (s : Scene) (n : ℕ) (x : List ℕ) (a b : Bool) → below s n ≡ leaf a → IsWithin s.tops x → Comes s n x b → a ≡ b
leaf_come s n x a b is within come = same_Some a b (sym (leaf_value (below s n) a x is) ∙ come x within (same_point x))

-- what has the value of a leaf comes to it
pub come_leaf : (s : Scene) (n : ℕ) (x : List ℕ) (a : Bool) → below s n ≡ leaf a → Comes s n x a
come_leaf s n x a is = λ y within same. leaf_value (below s n) a y is
