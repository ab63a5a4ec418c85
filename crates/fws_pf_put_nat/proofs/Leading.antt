-- Translations that lead packets.
use Rattle.std.proofs.Common.{◌≡◌, ℕ, zero, suc, ◌<◌, ◌≤◌, Bool, true, false, cond, Some, None, List, [], ◌∷◌, length, slice_get, inl, inr, refl, sym, subst, arith}
use Rattle.std.proofs.lemmas.Option.{slice_get-get_or}
use Rattle.std.specs.Prelude.{slice_index}
use Rattle.fws_net.specs.declared.outcome.End.{End}
use Rattle.fws_net.specs.declared.outcome.Outcome.{Outcome}
use Rattle.fws_net.specs.declared.outcome.Outcome.TheVariants.{Accept}
use Rattle.fws_net.specs.declared.packet.Packet.{Packet}
use Rattle.fws_tree.specs.declared.node.Kid.{Kid}
use Rattle.fws_tree.specs.declared.node.Node.{Node}
use Rattle.fws_tree.specs.declared.node.Node.TheVariants.{Leaf, Cut}
use Rattle.fws_tree.specs.Plain.{branch}
use Rattle.fws_tree.specs.Shared.{IsShared, subtree_of}
use Rattle.fws_tree_seen.specs.declared.seen.Seen.TheVariants.{Entered}
use Rattle.fws_tree_seen.specs.Cuts.{kids_of}
use Rattle.fws_tree_seen.specs.Reached.{IsOpen, Reaches, ReachesKid}
use Rattle.fws_tree_seen.specs.Shown.{has_field, shown}
use Rattle.fws_pf_put_nat.specs.declared.ends.Ends.TheVariants.{One}
use Rattle.fws_pf_put_nat.specs.declared.path.Path.{Path}
use Rattle.fws_pf_put_nat.specs.Scenes.{below, CutsFrom, GetsNoEnd, IsCome, IsFine, IsPlanned, Scene}
use Rattle.fws_pf_put_nat.specs.Ends.{IsAccepted, Tells}
use Rattle.fws_pf_put_nat.specs.Paths.{nat_of}
use Rattle.fws_pf_put_nat.specs.Translations.{IsAfter, IsLed, KeepsEntry}
use Rattle.fws_pf_put_nat.proofs.Coming.{begun, kid_reaches}
use Rattle.fws_pf_put_nat.proofs.Fields.{shown_from_port, shown_from_source}
use Rattle.fws_pf_put_nat.proofs.Laws.{NodeLaws}
use Rattle.fws_pf_put_nat.proofs.Leaves.{reach_leaf}
use Rattle.fws_pf_put_nat.proofs.Points.{at_node, branch_kept, kid_before, kid_cuts, node_cuts}

-- ---- tags

pub state_there : (states : List ℕ) (n : ℕ) → n < length states → slice_get states n ≡ Some (slice_index states n)
state_there states n lt = slice_get-get_or states n 0 lt

keeps_entry : (s : Scene) (n : ℕ) → CutsFrom s n 1 → (x : Node) → slice_get s.nodes n ≡ Some x → KeepsEntry x
keeps_entry s n h (Leaf k) e = tt
keeps_entry s n h (Cut f kids) e = λ z. let a = h f kids e in omega (arith, a, z)

-- ---- packets that get no end

pub led_root : (s : Scene) (path : Path) (p : Packet) → IsPlanned s → IsFine s p → GetsNoEnd s p
    → IsLed s.tree s.leaves s.nodes s.states s.outward p (nat_of path None (slice_index s.states s.start))
led_root s path p planned fine none =
    let begins = planned.begins in
    let size = planned.size in
    let back : (q : Packet) (w : Outcome) → q ≡ p → Reaches Entered q (branch 0 (below s s.start) q.entry) w → Reaches Entered p (branch 0 s.tree p.entry) w =
    λ q w same h. subst (λ u. Reaches Entered p u w) (begun s planned p.entry fine.met) (subst (λ (x : Packet). Reaches Entered x (branch 0 (below s s.start) x.entry) w) same h) in
    record {
      past = refl;
      node = s.start;
      below = begins;
      state = slice_index s.states s.start;
      is_state = state_there s.states s.start (omega (arith, begins, size));
      tag = refl;
      entry = λ out. keeps_entry s s.start (planned.keeps out);
      reached = λ q w after h. back q w after h;
      writes = λ q w after h. none w (back q (Accept w) after h);
    }

-- ---- packets that get an end

-- a kid by which something is reached
pub record IsReachedKid (s : Scene) (p : Packet) (f : ℕ) (kids : List Kid) (w : Outcome) : Type 0 where
  pub place : ℕ
  pub kid : Kid
  pub there : slice_get kids place ≡ Some kid
  pub opens : IsOpen Entered p f kid.set
  pub reached : Reaches Entered p (below s kid.node) w

reached_kid : (s : Scene) (p : Packet) (f : ℕ) (kids : List Kid) (w : Outcome) → ReachesKid Entered p f (kids_of (λ k. subtree_of s.leaves s.nodes k) kids) w → IsReachedKid s p f kids w
reached_kid s p f [] w h = absurd h
reached_kid s p f (k ∷ kids) w (inl h) = record { place = 0; kid = k; there = refl; opens = h.0; reached = h.1 }
reached_kid s p f (k ∷ kids) w (inr h) = let r = reached_kid s p f kids w h in record { place = suc r.place; kid = r.kid; there = r.there; opens = r.opens; reached = r.reached }

-- packets for which the same sets are open from a field on reach the same below nodes that cut no field before
same_reach : (laws : NodeLaws) (s : Scene) (p q : Packet) (low : ℕ) → IsShared s.tops s.tree s.leaves s.nodes
    → ((f v : ℕ) → low ≤ f → has_field p.proto f ≡ true → shown Entered f p ≡ Some v → (has_field q.proto f ≡ true) × (shown Entered f q ≡ Some v))
    → (fuel n : ℕ) → n < fuel → n < length s.nodes → CutsFrom s n low → (w : Outcome) → Reaches Entered q (below s n) w → Reaches Entered p (below s n) w
same_reach laws s p q low shared same zero n less lt cuts w h = absurd (omega (arith, less))
same_reach laws s p q low shared same (suc fuel) n less lt cuts w h = at_node s.nodes (Reaches Entered p (below s n) w) n lt
    (λ k e. let l = laws.leaf s.tops s.tree s.leaves s.nodes n k shared e in subst (λ u. Reaches Entered p u w) (sym l.2) (subst (λ u. Reaches Entered q u w) l.2 h))
    (λ f kids e. let node = laws.cut s.tops s.tree s.leaves s.nodes n f kids shared e in
    let r = reached_kid s q f kids w (subst (λ u. Reaches Entered q u w) node.tree h) in
    let before : r.kid.node < n = kid_before s n f kids r.place r.kid node r.there in
    let from : low ≤ f = cuts f kids e in
    let own : Reaches Entered p (below s r.kid.node) w = same_reach laws s p q low shared same fuel r.kid.node (omega (arith, before, less)) (omega (arith, before, lt))
    (λ g others e'. let a = kid_cuts s n f kids r.place r.kid node r.there g others e' in omega (arith, a, from)) w r.reached in
    subst (λ u. Reaches Entered p u w) (sym node.tree)
    (kid_reaches p f (λ k. subtree_of s.leaves s.nodes k) w kids r.place r.kid r.there (λ v a b. let z = same f v from a b in r.opens v z.0 z.1) own))

-- what is reached behind a translation below a node that doesn't cut what is written over is reached ahead of it
after_same : (laws : NodeLaws) (s : Scene) (outward : Bool) (e : End) (p q : Packet) (n : ℕ) → IsShared s.tops s.tree s.leaves s.nodes → n < length s.nodes → CutsFrom s n (cond outward 5 4)
    → IsAfter outward (Some e) p q → (w : Outcome) → Reaches Entered q (below s n) w → Reaches Entered p (below s n) w
after_same laws s true e p q n shared lt cuts after w h =
    same_reach laws s p (record p { src = q.src }) 5 shared (λ f v low a b. (a, shown_from_port p q.src f v low b)) (suc n) n (omega arith) lt cuts w
    (subst (λ (x : Packet). Reaches Entered x (below s n) w) after h)
after_same laws s false e p q n shared lt cuts after w h =
    same_reach laws s p (record p { dst = q.dst; dport = q.dport }) 4 shared (λ f v low a b. (a, shown_from_source p q.dst q.dport f v low b)) (suc n) n (omega arith) lt cuts w
    (subst (λ (x : Packet). Reaches Entered x (below s n) w) after h)

cuts_low : (s : Scene) (n : ℕ) (outward : Bool) → CutsFrom s n (cond outward 5 4) → CutsFrom s n 4
cuts_low s n true h = λ f kids e. let a = h f kids e in omega (arith, a)
cuts_low s n false h = h

cuts_some : (s : Scene) (n : ℕ) → CutsFrom s n 4 → CutsFrom s n 1
cuts_some s n h = λ f kids e. let a = h f kids e in omega (arith, a)

pub led_end : (laws : NodeLaws) (s : Scene) (path : Path) (p : Packet) (n : ℕ) (e : End) → IsPlanned s → n < length s.nodes → IsCome s n p → CutsFrom s n (cond s.outward 5 4)
    → Tells s.outward (IsAccepted (below s n)) (One (Some e)) → IsLed s.tree s.leaves s.nodes s.states s.outward p (nat_of path (Some e) (slice_index s.states n))
led_end laws s path p n e planned lt come cuts tells =
    let size = planned.size in
    let some : CutsFrom s n 1 = cuts_some s n (cuts_low s n s.outward cuts) in
    let kept : (x : ℕ) → branch 0 (below s n) x ≡ below s n = λ x. branch_kept 0 1 (below s n) x (omega arith) (node_cuts laws s n 1 planned.shared lt some) in
    let back : (q : Packet) (w : Outcome) → IsAfter s.outward (Some e) p q → Reaches Entered q (branch 0 (below s n) q.entry) w → Reaches Entered p (below s n) w =
    λ q w after h. after_same laws s s.outward e p q n planned.shared lt cuts after w (subst (λ u. Reaches Entered q u w) (kept q.entry) h) in
    record {
      past = refl;
      node = n;
      below = lt;
      state = slice_index s.states n;
      is_state = state_there s.states n (omega (arith, lt, size));
      tag = refl;
      entry = λ out. keeps_entry s n some;
      reached = λ q w after h. come.reached w (subst (λ u. Reaches Entered p u w) (sym (kept p.entry)) (back q w after h));
      writes = λ q w after h. tells.0 w (reach_leaf p (below s n) (Accept w) (back q (Accept w) after h));
    }
