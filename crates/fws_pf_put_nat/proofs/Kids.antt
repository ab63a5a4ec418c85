-- What is known of the kids of a node.
use Rattle.std.proofs.Common.{◌≡◌, ℕ, suc, ◌<◌, ◌≤◌, true, Some, List, [], ◌∷◌, length, slice_get, refl, arith}
use Rattle.std.proofs.lemmas.List.Elements.{All-cons, All-nil}
use Rattle.std.specs.List.{AllByRecursion}
use Rattle.std.specs.Prelude.{slice_index, All}
use Rattle.fws_iv.specs.Ivs.{has}
use Rattle.fws_tree.specs.declared.node.Kid.{Kid}
use Rattle.fws_tree_seen.specs.Cuts.{IsCutNode}
use Rattle.fws_pf_put_nat.specs.Scenes.{IsPlanned, Scene}
use Rattle.fws_pf_put_nat.proofs.Points.{kid_all, kid_before}

-- what holds of each kid by its place
by_place : (P : Kid → Type 0) (kids : List Kid) → ((i : ℕ) (kid : Kid) → slice_get kids i ≡ Some kid → P kid) → All P kids
by_place P [] h = All-nil P
by_place P (k ∷ kids) h = All-cons P k kids (h 0 k refl) (by_place P kids (λ i kid e. h (suc i) kid e))

pub kids_known : (s : Scene) (at f : ℕ) (kids : List Kid) → IsPlanned s → at < length s.nodes → IsCutNode s.tops s.leaves s.nodes at f kids → All (λ kid. kid.node < length s.ends) kids
kids_known s at f kids planned inside node = by_place (λ kid. kid.node < length s.ends) kids
    (λ i kid there. let b = kid_before s at f kids i kid node there in let size = planned.ends.size in omega (arith, b, size, inside))

pub kids_within : (s : Scene) (at f : ℕ) (kids : List Kid) → IsCutNode s.tops s.leaves s.nodes at f kids → All (λ kid. (v : ℕ) → has kid.set v ≡ true → v ≤ slice_index s.tops f) kids
kids_within s at f kids node = by_place (λ kid. (v : ℕ) → has kid.set v ≡ true → v ≤ slice_index s.tops f) kids (λ i kid there v h. node.within i v kid there h)

-- kids that stand before a node
pub kids_ready : (at n : ℕ) (kids : List Kid) → at ≡ n → AllByRecursion (λ kid. kid.node < at) kids → All (λ kid. kid.node < n) kids
kids_ready at n kids same h = by_place (λ kid. kid.node < n) kids (λ i kid there. let b = kid_all (λ kid. kid.node < at) kids i kid h there in omega (arith, b, same))
