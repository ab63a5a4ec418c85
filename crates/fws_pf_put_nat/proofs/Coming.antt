-- Where packets come, and what leads them.
use Rattle.std.proofs.Common.{◌≡◌, ℕ, zero, suc, ◌-◌, ◌<◌, ◌≤◌, Bool, true, false, Option, Some, None, List, [], ◌∷◌, length, slice_get, inl, inr, refl, sym, ◌∙◌, ap, subst, arith}
use Rattle.std.proofs.lemmas.Bool.{cases_Bool, cond-true, cond-false, eqb-true, eq-eqb, false≢true}
use Rattle.std.proofs.lemmas.Option.{none-some, same_Some, slice_get_within}
use Rattle.std.specs.Prelude.{nat_eq, slice_index, slice_set, IfSome}
use Rattle.fws_box.specs.Sides.{IsWithin}
use Rattle.fws_iv.specs.declared.iv.Iv.{Iv}
use Rattle.fws_iv.specs.Ivs.{has}
use Rattle.fws_net.specs.declared.outcome.End.{End}
use Rattle.fws_net.specs.declared.outcome.Outcome.{Outcome}
use Rattle.fws_net.specs.declared.outcome.Outcome.TheVariants.{Accept}
use Rattle.fws_net.specs.declared.outcome.Rewrite.{Rewrite}
use Rattle.fws_net.specs.declared.packet.Packet.{Packet}
use Rattle.fws_net.specs.Fates.{has_ports}
use Rattle.fws_net.specs.Points.{tops_of}
use Rattle.fws_tree.specs.declared.node.Kid.{Kid}
use Rattle.fws_tree.specs.declared.node.Node.TheVariants.{Cut}
use Rattle.fws_tree.specs.Plain.{Plain, cut, Kids, kid_at, branch, value, value_from, IsReduced}
use Rattle.fws_tree.specs.Shared.{subtree_of}
use Rattle.fws_tree_seen.specs.declared.seen.Seen.TheVariants.{Entered}
use Rattle.fws_tree_seen.specs.Cuts.{kids_of, IsCutNode}
use Rattle.fws_tree_seen.specs.Reached.{IsOpen, IsTopped, Reaches, ReachesKid}
use Rattle.fws_tree_seen.specs.Shown.{has_field, shown}
use Rattle.fws_tree_seen.specs.SightLaws.{ReachedValuesAreTold}
use Rattle.fws_pf_put_nat.specs.declared.ends.Ends.{Ends}
use Rattle.fws_pf_put_nat.specs.declared.ends.Ends.TheVariants.{Nothing, One, Many}
use Rattle.fws_pf_put_nat.specs.Scenes.{below, CutsFrom, GetsNoEnd, IsCome, IsFine, IsPlanned, Scene}
use Rattle.fws_pf_put_nat.specs.Ends.{IsAccepted, IsRoot, Tells}
use Rattle.fws_pf_put_nat.specs.Translations.{end_of, AgreeBefore, IsMet}
use Rattle.fws_pf_put_nat.proofs.Fields.{point_of, point_seen, point_within}
use Rattle.fws_pf_put_nat.proofs.Laws.{NodeLaws}
use Rattle.fws_pf_put_nat.proofs.Leaves.{value_leaf}
use Rattle.fws_pf_put_nat.proofs.Points.{branch_kept, kid_before, kid_cuts, leaf_point, node_cuts, node_value, set_other, set_there, set_within, within_length, IsLeafPoint}

-- ---- where packets begin

met_low : (outward : Bool) (tops : List ℕ) (e : ℕ) → IsMet outward tops e → e ≤ slice_index tops 0
met_low true tops e h = omega (arith, h)
met_low false tops e h = h.1

-- at an entry that meets the list the node where it begins has what the tree has
pub begun : (s : Scene) → IsPlanned s → (e : ℕ) → IsMet s.outward s.tops e → branch 0 (below s s.start) e ≡ branch 0 s.tree e
begun s planned e met = elim (cases_Bool s.outward) [
  | inl y ↦ (let zero-is : e ≡ 0 = subst (λ b. IsMet b s.tops e) y met in
      ap (λ n. branch 0 (below s s.start) n) zero-is ∙ planned.host y ∙ sym (ap (λ n. branch 0 s.tree n) zero-is))
  | inr n ↦ ap (λ u. branch 0 u e) (planned.inward n)
]

begun_value : (s : Scene) (x : List ℕ) → IsPlanned s → s.outward ≡ true → slice_index x 0 ≡ 0 → (y : List ℕ) → IsWithin s.tops y → AgreeBefore 1 x y → value s.tree y ≡ value (below s s.start) y
begun_value s x planned out at [] within agree = absurd (subst (λ l. IsWithin l []) planned.tops_are within)
begun_value s x planned out at (a ∷ y) within agree =
    let zero-is : a ≡ 0 = agree 0 (omega arith) ∙ at in
    ap (λ u. value_from 1 u y) (ap (λ n. branch 0 s.tree n) zero-is ∙ sym (planned.host out) ∙ sym (ap (λ n. branch 0 (below s s.start) n) zero-is))

pub come_start : (s : Scene) (p : Packet) → IsPlanned s → IsFine s p → IsCome s s.start p
come_start s p planned fine =
    let low : p.entry ≤ slice_index (tops_of s.site) 0 = subst (λ l. p.entry ≤ slice_index l 0) planned.tops_are (met_low s.outward s.tops p.entry fine.met) in
    let within : IsWithin s.tops (point_of p) = subst (λ l. IsWithin l (point_of p)) (sym planned.tops_are) (point_within s.site p low (subst (λ l. IsTopped l Entered p) planned.tops_are fine.topped)) in
    let reach : (w : Outcome) → Reaches Entered p (branch 0 (below s s.start) p.entry) w → Reaches Entered p (branch 0 s.tree p.entry) w =
    λ w h. subst (λ u. Reaches Entered p u w) (begun s planned p.entry fine.met) h in
    elim (cases_Bool s.outward) [
      | inl y ↦ (let zero-is : p.entry ≡ 0 = subst (λ b. IsMet b s.tops p.entry) y fine.met in record {
        reached = reach;
        point = point_of p;
        within = within;
        entry = refl;
        sees = point_seen p;
        bound = 1;
        early = planned.keeps y;
        same = begun_value s (point_of p) planned y zero-is;
      })
      | inr n ↦ record {
        reached = reach;
        point = point_of p;
        within = within;
        entry = refl;
        sees = point_seen p;
        bound = 0;
        early = λ f kids e. omega arith;
        same = λ y w agree. ap (λ u. value u y) (sym (planned.inward n));
      }
    ]

-- ---- a kid of a node

-- what is reached by a kid that is open
pub kid_reaches : (p : Packet) (f : ℕ) (tree : ℕ → Plain Outcome) (w : Outcome) (kids : List Kid) (i : ℕ) (kid : Kid) → slice_get kids i ≡ Some kid → IsOpen Entered p f kid.set
    → Reaches Entered p (tree kid.node) w → ReachesKid Entered p f (kids_of tree kids) w
kid_reaches p f tree w [] i kid e opens h = absurd (let lt = slice_get_within [] i kid e in omega (arith, lt))
kid_reaches p f tree w (k ∷ kids) zero kid e opens h =
    let same : k ≡ kid = same_Some k kid e in
    inl (subst (λ (x : Kid). IsOpen Entered p f x.set) (sym same) opens, subst (λ (x : Kid). Reaches Entered p (tree x.node) w) (sym same) h)
kid_reaches p f tree w (k ∷ kids) (suc i) kid e opens h = inr (kid_reaches p f tree w kids i kid e opens h)

-- a member of an open set as which its field is seen
pub record IsMember (set : List Iv) (f : ℕ) (p : Packet) : Type 0 where
  pub value : ℕ
  pub has_it : has set value ≡ true
  pub shown_as : (v : ℕ) → has_field p.proto f ≡ true → shown Entered f p ≡ Some v → value ≡ v
  pub entry : f ≡ 0 → value ≡ p.entry

member_by : (set : List Iv) (f : ℕ) (p : Packet) (b : Bool) (o : Option ℕ) → has_field p.proto f ≡ b → shown Entered f p ≡ o → IsOpen Entered p f set → (f ≡ 0 → ⊥) → (least : ℕ) → has set least ≡ true → IsMember set f p
member_by set f p true (Some v) a e opens ne least h = record { value = v; has_it = opens v a e; shown_as = λ w b g. same_Some v w (sym e ∙ g); entry = λ z. absurd (ne z) }
member_by set f p true None a e opens ne least h = record { value = least; has_it = h; shown_as = λ w b g. absurd (none-some w (sym e ∙ g)); entry = λ z. absurd (ne z) }
member_by set f p false o a e opens ne least h = record { value = least; has_it = h; shown_as = λ w b g. absurd (false≢true (sym a ∙ b)); entry = λ z. absurd (ne z) }

pub member : (set : List Iv) (f : ℕ) (p : Packet) → IsOpen Entered p f set → (f ≡ 0 → has set p.entry ≡ true) → (least : ℕ) → has set least ≡ true → IsMember set f p
member set f p opens at least h = elim (cases_Bool (nat_eq f 0)) [
  | inl y ↦ (let z : f ≡ 0 = eqb-true f 0 y in record {
    value = p.entry;
    has_it = at z;
    shown_as = λ v a e. absurd (none-some v (subst (λ n. shown Entered n p ≡ Some v) z e));
    entry = λ e. refl;
  })
  | inr n ↦ member_by set f p (has_field p.proto f) (shown Entered f p) refl refl opens (λ z. absurd (false≢true (sym n ∙ eq-eqb f 0 z))) least h
]

-- what is reached below a kid is reached below the node
reached_below : (laws : NodeLaws) (s : Scene) (n f : ℕ) (kids : List Kid) (i : ℕ) (kid : Kid) (p : Packet) → IsPlanned s → n < length s.nodes → IsCutNode s.tops s.leaves s.nodes n f kids
    → slice_get kids i ≡ Some kid → IsOpen Entered p f kid.set → (f ≡ 0 → has kid.set p.entry ≡ true)
    → (w : Outcome) → Reaches Entered p (branch 0 (below s kid.node) p.entry) w → Reaches Entered p (branch 0 (below s n) p.entry) w
reached_below laws s n f kids i kid p planned lt node there opens at w h =
    let ks : Kids Outcome = kids_of (λ k. subtree_of s.leaves s.nodes k) kids in
    let before : kid.node < n = kid_before s n f kids i kid node there in
    let later = node_cuts laws s kid.node (suc f) planned.shared (omega (arith, before, lt)) (kid_cuts s n f kids i kid node there) in
    let own : Reaches Entered p (below s kid.node) w = subst (λ u. Reaches Entered p u w) (branch_kept 0 (suc f) (below s kid.node) p.entry (omega arith) later) h in
    let whole : branch 0 (below s n) p.entry ≡ branch 0 (cut f ks) p.entry = ap (λ u. branch 0 u p.entry) node.tree in
    elim (cases_Bool (nat_eq f 0)) [
      | inl y ↦ (let z : f ≡ 0 = eqb-true f 0 y in
          subst (λ u. Reaches Entered p u w) (sym (whole ∙ cond-true (nat_eq f 0) (kid_at ks p.entry) (cut f ks) y ∙ node.found i p.entry kid there (at z))) own)
      | inr z ↦ subst (λ u. Reaches Entered p u w) (sym (whole ∙ cond-false (nat_eq f 0) (kid_at ks p.entry) (cut f ks) z))
          (kid_reaches p f (λ k. subtree_of s.leaves s.nodes k) w kids i kid there opens own)
    ]

pub come_kid : (laws : NodeLaws) (s : Scene) (n f : ℕ) (kids : List Kid) (i : ℕ) (kid : Kid) (p : Packet) → IsPlanned s → n < length s.nodes → slice_get s.nodes n ≡ Some (Cut f kids)
    → slice_get kids i ≡ Some kid → IsOpen Entered p f kid.set → (f ≡ 0 → has kid.set p.entry ≡ true) → IsCome s n p → IsCome s kid.node p
come_kid laws s n f kids i kid p planned lt cuts there opens at come =
    let node : IsCutNode s.tops s.leaves s.nodes n f kids = laws.cut s.tops s.tree s.leaves s.nodes n f kids planned.shared cuts in
    let least = node.filled i kid there in
    let m = member kid.set f p opens at least.0 least.1 in
    let x : List ℕ = come.point in
    let inside : f < length x = (let a = node.field in let b = within_length s.tops x come.within in omega (arith, a, b)) in
    let early : come.bound ≤ f = come.early f kids cuts in record {
      reached = λ w h. come.reached w (reached_below laws s n f kids i kid p planned lt node there opens at w h);
      point = slice_set x f m.value;
      within = set_within s.tops x f m.value come.within (node.within i m.value kid there m.has_it);
      entry = elim (cases_Bool (nat_eq f 0)) [
        | inl y ↦ (let z : f ≡ 0 = eqb-true f 0 y in ap (λ k. slice_index (slice_set x f m.value) k) (sym z) ∙ set_there x f m.value inside ∙ m.entry z)
        | inr z ↦ set_other x f m.value 0 (λ e. absurd (false≢true (sym z ∙ eq-eqb f 0 (sym e)))) ∙ come.entry
      ];
      sees = λ g v a e. elim (cases_Bool (nat_eq g f)) [
        | inl y ↦ (let same : g ≡ f = eqb-true g f y in
            ap (λ k. slice_index (slice_set x f m.value) k) same ∙ set_there x f m.value inside
            ∙ m.shown_as v (subst (λ k. has_field p.proto k ≡ true) same a) (subst (λ k. shown Entered k p ≡ Some v) same e))
        | inr z ↦ set_other x f m.value g (λ e'. absurd (false≢true (sym z ∙ eq-eqb g f e'))) ∙ come.sees g v a e
      ];
      bound = suc f;
      early = kid_cuts s n f kids i kid node there;
      same = λ y within agree.
          come.same y within (λ g low. agree g (omega (arith, low, early)) ∙ set_other x f m.value g (λ e. omega (arith, e, low, early)))
          ∙ node_value laws s n f kids i kid m.value y planned.shared lt node there m.has_it within (agree f (omega arith) ∙ set_there x f m.value inside);
    }

-- ---- packets that get no end

pub none_by : (laws : NodeLaws) → ReachedValuesAreTold Outcome → (s : Scene) (n : ℕ) (p : Packet) (e : Ends) → IsPlanned s → IsCome s n p → Tells s.outward (IsAccepted (below s n)) e → IsRoot e → GetsNoEnd s p
none_by laws told s n p e planned come tells root = λ w h.
    let some = planned.shared.some in
    let reduced : IsReduced s.tops s.tree = subst (λ u. IsReduced s.tops u) (sym planned.shared.last) (planned.shared.reduced (length s.nodes - 1) (omega (arith, some))) in
    let there : Reaches Entered p (branch 0 s.tree (slice_index come.point 0)) (Accept w) = subst (λ k. Reaches Entered p (branch 0 s.tree k) (Accept w)) (sym come.entry) h in
    let is : value s.tree come.point ≡ Some (Accept w) =
    told Entered s.tops s.tree p come.point (Accept w) reduced (ap length planned.tops_are) planned.told come.within come.sees there in
    let own : IsAccepted (below s n) w = value_leaf 0 (below s n) come.point (Accept w) (sym (come.same come.point come.within (λ g lt. refl)) ∙ is) in
    end_is e tells root w own
  where
    end_is : (e : Ends) → Tells s.outward (IsAccepted (below s n)) e → IsRoot e → (w : Rewrite) → IsAccepted (below s n) w → end_of s.outward w ≡ None
    end_is Nothing tells root w own = absurd (tells w own)
    end_is (One None) tells root w own = tells.0 w own
    end_is (One (Some e)) tells root w own = absurd root
    end_is Many tells root w own = absurd root

-- ---- what the premises exclude

-- a point of a rewriting below a node to which a packet comes
pub record IsPointOf (s : Scene) (n : ℕ) (x : List ℕ) (w : Rewrite) : Type 0 where
  pub point : List ℕ
  pub within : IsWithin s.tops point
  pub value_is : value s.tree point ≡ Some (Accept w)
  pub agrees : (g : ℕ) → CutsFrom s n (suc g) → slice_index point g ≡ slice_index x g

pub come_point : (laws : NodeLaws) (s : Scene) (n : ℕ) (p : Packet) → IsPlanned s → n < length s.nodes → (come : IsCome s n p) → (w : Rewrite) → IsAccepted (below s n) w → IsPointOf s n come.point w
come_point laws s n p planned lt come w h =
    let y : IsLeafPoint s n come.point (Accept w) = leaf_point laws s planned.shared n lt come.point come.within (Accept w) h in record {
      point = y.point;
      within = y.within;
      value_is = come.same y.point y.within (λ g low. y.agrees g (λ f kids e. let a = come.early f kids e in omega (arith, a, low))) ∙ y.value;
      agrees = y.agrees;
    }

cuts_less : (s : Scene) (n a b : ℕ) → b ≤ a → CutsFrom s n a → CutsFrom s n b
cuts_less s n a b le h = λ f kids e. let c = h f kids e in omega (arith, c, le)

-- no field from the flags on tells ends apart
pub not_many : (laws : NodeLaws) (s : Scene) (n : ℕ) (p : Packet) → IsPlanned s → n < length s.nodes → IsFine s p → IsCome s n p → CutsFrom s n 6 → Tells s.outward (IsAccepted (below s n)) Many → ⊥
not_many laws s n p planned lt fine come late tells =
    let a = come_point laws s n p planned lt come tells.0 tells.2 in
    let b = come_point laws s n p planned lt come tells.1 tells.3 in
    let at : (g : ℕ) → g < 6 → CutsFrom s n (suc g) = λ g low. cuts_less s n 6 (suc g) (omega (arith, low)) late in
    let entry : slice_index a.point 0 ≡ p.entry = a.agrees 0 (at 0 (omega arith)) ∙ come.entry in
    tells.4 (planned.one a.point b.point tells.0 tells.1 a.within b.within (subst (λ e. IsMet s.outward s.tops e) (sym entry) fine.met)
    (λ g low. b.agrees g (at g low) ∙ sym (a.agrees g (at g low))) a.value_is b.value_is)

-- a packet that comes to an end with a port is met on the in pass and has ports
port_there : (o : Option End) (e : End) (port : ℕ) → o ≡ Some e → e.port ≡ Some port → IfSome o (λ x. x.port ≡ None) → ⊥
port_there None e port is at h = none-some e is
port_there (Some x) e port is at h = clash x.port port (ap (λ (y : End). y.port) (same_Some x e is) ∙ at) h
  where
    clash : (o : Option ℕ) (port : ℕ) → o ≡ Some port → o ≡ None → ⊥
    clash o port a b = none-some port (sym b ∙ a)

pub no_source_port : (laws : NodeLaws) (s : Scene) (n : ℕ) (p : Packet) (e : End) (port : ℕ) → IsPlanned s → n < length s.nodes → IsFine s p → IsCome s n p → CutsFrom s n 4 → e.port ≡ Some port
    → Tells s.outward (IsAccepted (below s n)) (One (Some e)) → s.outward ≡ true → ⊥
no_source_port laws s n p e port planned lt fine come late has-port tells out =
    let w = tells.1.0 in
    let a = come_point laws s n p planned lt come w tells.1.1 in
    let entry : slice_index a.point 0 ≡ p.entry = a.agrees 0 (cuts_less s n 4 1 (omega arith) late) ∙ come.entry in
    let host : p.entry ≡ 0 = subst (λ b. IsMet b s.tops p.entry) out fine.met in
    let end : w.src ≡ Some e = subst (λ b. end_of b w ≡ Some e) out (tells.0 w tells.1.1) in
    port_there w.src e port end has-port (planned.bare out a.point w a.within (entry ∙ host) a.value_is)

pub has_its_ports : (laws : NodeLaws) (s : Scene) (n : ℕ) (p : Packet) (e : End) (port : ℕ) → IsPlanned s → n < length s.nodes → IsCome s n p → CutsFrom s n 4 → e.port ≡ Some port
    → Tells s.outward (IsAccepted (below s n)) (One (Some e)) → s.outward ≡ false → has_ports p.proto ≡ true
has_its_ports laws s n p e port planned lt come late has-port tells inward = elim (cases_Bool (has_ports p.proto)) [
  | inl y ↦ y
  | inr z ↦ (let w = tells.1.0 in
      let a = come_point laws s n p planned lt come w tells.1.1 in
      let proto : slice_index a.point 1 ≡ p.proto = a.agrees 1 (cuts_less s n 4 2 (omega arith) late) ∙ come.sees 1 p.proto refl refl in
      let end : w.dst ≡ Some e = subst (λ b. end_of b w ≡ Some e) inward (tells.0 w tells.1.1) in
      absurd (port_there w.dst e port end has-port (planned.ports a.point w a.within a.value_is (ap has_ports proto ∙ z)).1))
]
