-- The list of a tree.
use Rattle.std.proofs.Common.{◌≡◌, ◌⊎◌, ℕ, ◌-◌, ◌<◌, ◌≤◌, Bool, true, false, ◌&&◌, not, Some, List, [], ◌∷◌, length, inl, inr, refl, sym, ◌∙◌, ap, subst, arith}
use Rattle.std.proofs.lemmas.Bool.{and_from, cond-false, false_from_ne_true, eqb-true, le-leb, lt-ltb}
use Rattle.std.proofs.lemmas.List.Elements.{All-weaker}
use Rattle.std.proofs.lemmas.Option.{same_Some}
use Rattle.std.specs.List.{list_any}
use Rattle.std.specs.Prelude.{nat_eq, nat_le, nat_lt, slice_get, slice_index, All}
use Rattle.fws_box.specs.Sides.{IsWithin}
use Rattle.fws_net.specs.declared.connection.Kind.{Kind}
use Rattle.fws_net.specs.declared.site.Site.{Site}
use Rattle.fws_net.specs.declared.view.View.{View}
use Rattle.fws_net.specs.Conditions.{holds}
use Rattle.fws_net.specs.Connections.{is_est}
use Rattle.fws_net.specs.Points.{tops_of}
use Rattle.fws_ipfw.specs.declared.config.IpfwRule.{IpfwRule}
use Rattle.fws_ipfw.specs.RuleText.{allows}
use Rattle.fws_ipfw.specs.Walk.{view_on}
use Rattle.fws_tree.specs.declared.node.Node.{Node}
use Rattle.fws_tree.specs.declared.node.Node.TheVariants.{Leaf, Cut}
use Rattle.fws_tree.specs.Plain.{Plain, cut, branch, kid_at, value, IsReduced}
use Rattle.fws_tree.specs.Shared.{IsShared, subtree_of}
use Rattle.fws_tree_seen.specs.Cuts.{kids_of}
use Rattle.fws_tree_seen.specs.NodeLaws.{CutNodesPartValues, LeafNodesAreLeaves}
use Rattle.fws_tree_seen.specs.Reached.{Reaches}
use Rattle.fws_tree_seen.specs.Shown.{IsTold}
use Rattle.fws_tree_seen.specs.SightLaws.{ReachedValuesAreTold, SeenPointsAreTopped}
use Rattle.fws_ipfw_put_rules.specs.declared.choice.Choice.{Choice}
use Rattle.fws_ipfw_put_rules.specs.declared.choice.Section.{Section}
use Rattle.fws_ipfw_put_rules.specs.declared.turn.Turn.{Turn}
use Rattle.fws_ipfw_put_rules.specs.Blocks.{chosen, is_quiet, AreNodeRules, AreRootTurns, AreRulesFor, AreTurnRules, IsBlock, IsFine, IsPlanned, KeepsEntry}
use Rattle.fws_ipfw_put_rules.specs.Leaves.{all_leaves}
use Rattle.fws_ipfw_put_rules.specs.Lists.{act_of, fits_at, FitsAt, IsList, NeverAllows}
use Rattle.fws_ipfw_put_rules.specs.Literals.{direction, holds_or_none}
use Rattle.fws_ipfw_put_rules.specs.Turns.{Leads}
use Rattle.fws_ipfw_put_rules.proofs.Leaving.{leaves_meet}
use Rattle.fws_ipfw_put_rules.proofs.Walking.{rules_same}

-- what a packet reaches in the tree that is left at its entry
abbrev pub Rooted : Section → Plain Choice → View → Choice → Type 0
Rooted section t v w = Reaches section.seen v.packet (branch 0 t v.packet.entry) w

-- ---- from the rules of the root

pub turns_rooted : (site : Site) (tops : List ℕ) (section : Section) (t : Plain Choice) (leaves : List Choice) (nodes : List Node) (turns : List Turn) (block : List IpfwRule)
    → AreRootTurns site tops section t leaves nodes turns → AreTurnRules site tops section t leaves nodes (direction section.outward ∷ []) turns block
    → AreRulesFor tops section (Rooted section t) (λ v. holds (direction section.outward ∷ []) v) block
turns_rooted site tops section t leaves nodes turns block root h =
    rules_same tops section (λ v w. Leads section.seen (subtree_of leaves nodes) v turns w) (Rooted section t)
    (λ v. holds (direction section.outward ∷ []) v && list_any (λ turn. holds_or_none v turn.lit) turns) (λ v. holds (direction section.outward ∷ []) v) block
    (λ v. and_true (holds (direction section.outward ∷ []) v) (list_any (λ turn. holds_or_none v turn.lit) turns) (root.whole v))
    (λ v w fine held l. root.leads v w fine l) h.decide
  where
    and_true : (a b : Bool) → b ≡ true → a ≡ (a && b)
    and_true true b e = sym e
    and_true false b e = refl

-- nothing is left out at an entry that isn't cut
keeps_whole : (leaf-law : LeafNodesAreLeaves Choice) (cut-law : CutNodesPartValues Choice) (tops : List ℕ) (t : Plain Choice) (leaves : List Choice) (nodes : List Node) (at : ℕ) (node : Node)
    → IsShared tops t leaves nodes → slice_get nodes at ≡ Some node → KeepsEntry node → (e : ℕ) → branch 0 (subtree_of leaves nodes at) e ≡ subtree_of leaves nodes at
keeps_whole leaf-law cut-law tops t leaves nodes at (Leaf n) shared there keeps e =
    let l = leaf-law tops t leaves nodes at n shared there in
    ap (λ u. branch 0 u e) l.2 ∙ sym l.2
keeps_whole leaf-law cut-law tops t leaves nodes at (Cut f kids) shared there keeps e =
    let node = cut-law tops t leaves nodes at f kids shared there in
    let K = kids_of (λ n. subtree_of leaves nodes n) kids in
    ap (λ u. branch 0 u e) node.tree
    ∙ cond-false (nat_eq f 0) (kid_at K e) (cut f K) (false_from_ne_true (nat_eq f 0) (λ y. keeps (eqb-true f 0 y)))
    ∙ sym node.tree

pub node_rooted : (leaf-law : LeafNodesAreLeaves Choice) (cut-law : CutNodesPartValues Choice) (site : Site) (tops : List ℕ) (section : Section) (t : Plain Choice) (leaves : List Choice) (nodes : List Node) (node : Node) (block : List IpfwRule)
    → IsPlanned site tops t section leaves nodes → slice_get nodes (length nodes - 1) ≡ Some node → KeepsEntry node
    → AreNodeRules site tops section t leaves nodes (length nodes - 1) (direction section.outward ∷ []) block
    → AreRulesFor tops section (Rooted section t) (λ v. holds (direction section.outward ∷ []) v) block
node_rooted leaf-law cut-law site tops section t leaves nodes node block planned there keeps h =
    let last : ℕ = length nodes - 1 in
    let same : (e : ℕ) → branch 0 t e ≡ subtree_of leaves nodes last = λ e.
    ap (λ u. branch 0 u e) planned.shared.last ∙ keeps_whole leaf-law cut-law tops t leaves nodes last node planned.shared there keeps e in
    rules_same tops section (λ v w. Reaches section.seen v.packet (subtree_of leaves nodes last) w) (Rooted section t)
    (λ v. holds (direction section.outward ∷ []) v) (λ v. holds (direction section.outward ∷ []) v) block (λ v. refl)
    (λ v w fine held r. subst (λ u. Reaches section.seen v.packet u w) (sym (same v.packet.entry)) r) h.decide

-- ---- the list

on_pass : (outward : Bool) (v : View) → v.outward ≡ outward → holds (direction outward ∷ []) v ≡ true
on_pass true v e = ap (λ b. b && true) e
on_pass false v e = ap (λ b. not b && true) e

off_pass : (outward : Bool) (v : View) → v.outward ≡ not outward → holds (direction outward ∷ []) v ≡ false
off_pass true v e = ap (λ b. b && true) e
off_pass false v e = ap (λ b. not b && true) e

calm_leaves : (tops : List ℕ) (t : Plain Choice) (k : Kind) → IsReduced tops t → (is_est k ≡ false) ⊎ NeverAllows tops t → all_leaves (is_quiet k) t ≡ true
calm_leaves tops t k reduced (inl e) = leaves_meet (is_quiet k) 0 tops t reduced (λ p a w is. ap (λ b. not (b && allows (act_of a))) e)
calm_leaves tops t k reduced (inr n) = leaves_meet (is_quiet k) 0 tops t reduced (λ p a w is. never (is_est k) (allows (act_of a)) (n p a w is))
  where
    never : (a b : Bool) → b ≡ false → not (a && b) ≡ true
    never true b e = ap not e
    never false b e = refl

first_within : (tops x : List ℕ) → IsWithin tops x → slice_index x 0 ≤ slice_index tops 0
first_within [] [] h = omega arith
first_within [] (x ∷ p) h = absurd h
first_within (top ∷ tops) [] h = absurd h
first_within (top ∷ tops) (x ∷ p) h = h.0

pub reduced_whole : (tops : List ℕ) (t : Plain Choice) (leaves : List Choice) (nodes : List Node) → IsShared tops t leaves nodes → IsReduced tops t
reduced_whole tops t leaves nodes shared = let some = shared.some in subst (λ u. IsReduced tops u) (sym shared.last) (shared.reduced (length nodes - 1) (omega (arith, some)))

pub list_made : (told-law : ReachedValuesAreTold Choice) (topped-law : SeenPointsAreTopped) (site : Site) (tops : List ℕ) (section : Section) (t : Plain Choice) (leaves : List Choice) (nodes : List Node) (block : List IpfwRule)
    → IsTold section.seen tops t → IsPlanned site tops t section leaves nodes → IsBlock site section.number t block
    → AreRulesFor tops section (Rooted section t) (λ v. holds (direction section.outward ∷ []) v) block → IsList site tops section t block
list_made told-law topped-law site tops section t leaves nodes block told planned is h =
    let reduced : IsReduced tops t = reduced_whole tops t leaves nodes planned.shared in
    let twelve : length tops ≡ 12 = ap (λ (l : List ℕ). length l) planned.tops_are in
    record {
      numbered = is.numbered;
      printed = is.printed;
      plain = is.plain;
      decides = λ c p k rest to m x choice le behind calm origin entry within sees val.
          let v : View = view_on site k section.outward m.transit in
          let fine : IsFine tops section v = record {
            topped = topped-law section.seen tops m.transit.packet x within sees;
            shown = refl;
            origin = origin;
            entry = subst (λ n. n ≤ slice_index tops 0) entry (first_within tops x within);
          } in
          let r = h.decides c site p k section.outward rest to m le (low rest behind) (is.quiet k (calm_leaves tops t k reduced calm)) fine (on_pass section.outward v refl) in
          let there : value t x ≡ Some r.0 = told-law section.seen tops t m.transit.packet x r.0 reduced twelve told within sees
          (subst (λ e. Reaches section.seen m.transit.packet (branch 0 t e) r.0) (sym entry) r.1) in
          r.3 ∙ ap (λ w. chosen c site p k section.outward rest m w) (same_Some r.0 choice (sym there ∙ val));
      lets_by = λ c p k rest to m le behind calm.
          h.passes c site p k (not section.outward) rest to m le (low rest behind) (is.quiet k (calm_leaves tops t k reduced calm))
          (off_pass section.outward (view_on site k (not section.outward) m.transit) refl);
    }
  where
    low : (rest : List IpfwRule) → All (λ r. section.number < r.number) rest → All (λ r. section.number ≤ r.number) rest
    low rest = All-weaker (λ (r : IpfwRule). section.number < r.number) (λ r. section.number ≤ r.number) (λ r lt. omega (arith, lt)) rest

pub plan_made : (site : Site) (tops : List ℕ) (section : Section) (t : Plain Choice) (leaves : List Choice) (nodes : List Node) → tops ≡ tops_of site → IsShared tops t leaves nodes
    → FitsAt tops section.number t → (0 < section.number) × (section.number ≤ 65534) → IsPlanned site tops t section leaves nodes
plan_made site tops section t leaves nodes is shared fits number = record {
  tops_are = is;
  shared = shared;
  fits = leaves_meet (fits_at section.number) 0 tops t (reduced_whole tops t leaves nodes shared) fits;
  number = and_from (nat_lt 0 section.number) (nat_le section.number 65534) (lt-ltb 0 section.number number.0) (le-leb section.number 65534 number.1);
}
