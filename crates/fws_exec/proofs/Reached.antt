-- What is told of uses on the whole way.
use Rattle.std.proofs.Common.{◌≡◌, ◌≢◌, ◌≤◌, ℕ, Bool, true, false, cond, Some, List, [], ◌∷◌, length, slice_get, inl, inr, refl, sym, ◌∙◌, ap, arith}
use Rattle.std.proofs.lemmas.Bool.{and_from, false≢true}
use Rattle.std.proofs.lemmas.Bool.Decides.{nat_tests}
use Rattle.fws_box.specs.Sides.{IsWithin, sides_have, whole_sides}
use Rattle.fws_iv.specs.declared.iv.Iv.{Iv}
use Rattle.fws_iv.specs.Ivs.{has}
use Rattle.fws_net.specs.declared.outcome.Outcome.{Outcome}
use Rattle.fws_net.specs.declared.outcome.Outcome.TheVariants as outcomes
use Rattle.fws_net.specs.declared.packet.State.{State}
use Rattle.fws_net.specs.declared.site.Site.{Site}
use Rattle.fws_net.specs.declared.transit.Transit.{Transit}
use Rattle.fws_net.specs.Points.{packet_of, tops_of}
use Rattle.fws_net.specs.Transits.{entered}
use Rattle.fws_net.specs.declared.connection.Kind.{Kind}
use Rattle.fws_net.specs.declared.packet.Packet.{Packet}
use Rattle.fws_flat.specs.declared.code.Flat.{Flat}
use Rattle.fws_flat.specs.declared.code.Ins.{Ins}
use Rattle.fws_flat.specs.Uses.{uses}
use Rattle.fws_flat.specs.Walk.{means}
use Rattle.fws_exec.specs.declared.sheet.Sheet.{Sheet}
use Rattle.fws_exec.specs.declared.spot.Stage.{Stage}
use Rattle.fws_exec.specs.declared.spot.Stage.TheVariants.{Arrive, Deliver, Forward, Send}
use Rattle.fws_exec.specs.Classes.{kind_of, future}
use Rattle.fws_exec.specs.Courses.{aim_at, caught}
use Rattle.fws_exec.specs.Reaching.{AreReached, HaveAll, IsReached, IsUnreached}
use Rattle.fws_exec.specs.Sheets.{class_at}
use Rattle.fws_exec.specs.Stages.{nowhere, passed, coming_in, through_parts, through_routing, Becomes}
use Rattle.fws_exec.proofs.Meaning.{sending, forwarding, delivering, routing, arriving, is_caught, isnt_caught, means_way, nothing_left, uses_way}
use Rattle.fws_exec.proofs.Telling.{becomes_then, open_at, open_none}

-- all stages one after another
pub whole_becomes : (f : Flat) (site : Site) (s : State) (a b c d e z : Sheet)
    → Becomes site a b (through_parts f.code site s Arrive f.arrive) → Becomes site b c (through_routing site) → Becomes site c d (through_parts f.code site s Deliver f.deliver)
    → Becomes site d e (through_parts f.code site s Forward f.forward) → Becomes site e z (through_parts f.code site s Send f.send) → Becomes site a z (arriving f site s)
whole_becomes f site s a b c d e z arrives routes delivers forwards sends =
    becomes_then site a b z (through_parts f.code site s Arrive f.arrive) (routing f site s) arrives
    (becomes_then site b c z (through_routing site) (delivering f site s) routes
    (becomes_then site c d z (through_parts f.code site s Deliver f.deliver) (forwarding f site s) delivers
    (becomes_then site d e z (through_parts f.code site s Forward f.forward) (sending f site s) forwards sends)))

-- what becomes of packets where those on the sides come in
abbrev pub Enters : Site → List (List Iv) → Sheet → Type 0
Enters site sides s = (next : Stage → Transit → Outcome) (p : List ℕ) → IsWithin (tops_of site) p
    → future nowhere next s.roll.classes.items (class_at s p) p ≡ cond (sides_have sides p) (coming_in next p Arrive (entered (packet_of p))) outcomes.Drop

pub whole_means : (f : Flat) (site : Site) (s : State) (sides : List (List Iv)) (a z : Sheet) → Enters site sides a → Becomes site a z (arriving f site s)
    → (p : List ℕ) → IsWithin (tops_of site) p → future nowhere (passed s p) z.roll.classes.items (class_at z p) p ≡ cond (sides_have sides p) (means f site (packet_of p) (kind_of s p)) outcomes.Drop
whole_means f site s sides a z enters becomes p w =
    becomes.kept (record { next = passed s p; sought = λ n. false }) p (open_none z.reached.items (passed s p)) w
    ∙ enters (arriving f site s (record { next = passed s p; sought = λ n. false }) p) p w
    ∙ ap (λ o. cond (sides_have sides p) o outcomes.Drop) (means_way f site s p)

-- instructions that were reached, of which none was at first
pub whole_reached : (f : Flat) (site : Site) (s : State) (sides : List (List Iv)) (a z : Sheet) → Enters site sides a → Becomes site a z (arriving f site s) → ((k : ℕ) → slice_get a.reached.items k ≢ Some true)
    → (n : ℕ) → slice_get z.reached.items n ≡ Some true → IsReached f site s n
whole_reached f site s sides a z enters becomes none n got = elim (becomes.tells.found n got) [
  | inl before ↦ absurd (none n before)
  | inr m ↦ (
    m.1.0,
    m.1.1,
    by (sides_have sides m.1.0) (uses f site (packet_of m.1.0) (kind_of s m.1.0) n)
        (ap (λ o. cond (sides_have sides m.1.0) o outcomes.Drop) (uses_way f site s n m.1.0)
        ∙ sym (enters (arriving f site s (aim_at n (λ stage t. outcomes.Drop)) m.1.0) m.1.0 m.1.1)
        ∙ m.1.2 (λ stage t. outcomes.Drop)),
  )
]
  where
    by : (b u : Bool) → cond b (cond u caught outcomes.Drop) outcomes.Drop ≡ caught → u ≡ true
    by true u e = is_caught u e
    by false u e = absurd (false≢true (is_caught false e))

-- and those that weren't, where the sides have all points
pub whole_unreached : (f : Flat) (site : Site) (s : State) (sides : List (List Iv)) (a z : Sheet) → Enters site sides a → Becomes site a z (arriving f site s) → HaveAll site sides
    → (n : ℕ) → slice_get z.reached.items n ≡ Some false → IsUnreached f site s n
whole_unreached f site s sides a z enters becomes all n got p w =
    isnt_caught (uses f site (packet_of p) (kind_of s p) n)
    (uses_way f site s n p
    ∙ sym (becomes.kept (aim_at n (λ stage t. outcomes.Drop)) p (open_at z.reached.items n (λ stage t. outcomes.Drop) got) w
    ∙ enters (arriving f site s (aim_at n (λ stage t. outcomes.Drop)) p) p w
    ∙ ap (λ b. cond b (coming_in (arriving f site s (aim_at n (λ stage t. outcomes.Drop)) p) p Arrive (entered (packet_of p))) outcomes.Drop) (all p w))
    ∙ nothing_left z.roll.classes.items (class_at z p) p)

-- whole sides have all points
pub have_all : (site : Site) (sides : List (List Iv)) → sides ≡ whole_sides (tops_of site) → HaveAll site sides
have_all site sides whole p w = ap (λ ss. sides_have ss p) whole ∙ by (tops_of site) p w
  where
    in_range : (x top : ℕ) → x ≤ top → has (record { lo = 0; hi = top } ∷ []) x ≡ true
    in_range x top le = grind (arith, nat_tests)

    by : (tops q : List ℕ) → IsWithin tops q → sides_have (whole_sides tops) q ≡ true
    by [] [] w = refl
    by [] (x ∷ q) w = absurd w
    by (top ∷ tops) [] w = absurd w
    by (top ∷ tops) (x ∷ q) w = and_from (has (record { lo = 0; hi = top } ∷ []) x) (sides_have (whole_sides tops) q) (in_range x top w.0) (by tops q w.1)

-- the same of code of which the same instructions are used
pub reached_same : (f : Flat) (late : List Ins) (site : Site) (s : State) (answers : List Bool) → length late ≡ length f.code
    → ((other : Site) (p : Packet) (k : Kind) (n : ℕ) → uses (record f { code = late }) other p k n ≡ uses f other p k n)
    → AreReached (record f { code = late }) site s answers → AreReached f site s answers
reached_same f late site s answers long same are = record {
  count = are.count ∙ long;
  reached = λ n got. (let r = are.reached n got in (r.0, r.1, sym (same site (packet_of r.0) (kind_of s r.0) n) ∙ r.2));
  unreached = λ n got p w. sym (same site (packet_of p) (kind_of s p) n) ∙ are.unreached n got p w;
}
