-- Where an end is held it is written, and else the verdict so far decides.
use Rattle.std.proofs.Common.{◌≡◌, ℕ, zero, suc, ◌+◌, ◌/◌, ◌%◌, ◌^◌, ◌<◌, ◌≤◌, Bool, true, false, cond, ◌&&◌, ◌||◌, not, nat_eq, Option, Some, None, List, [], ◌∷◌, ◌++◌, length, drop, arith, refl, sym, ap, ◌∙◌, subst, length-append}
use Rattle.std.specs.List.{list_any}
use Rattle.std.proofs.lemmas.Bool.{false≢true, cond-true, cond-false, eq-eqb, ne_eqb}
use Rattle.fws_net.specs.declared.connection.Kind.TheVariants.{New}
use Rattle.fws_net.specs.declared.outcome.End.{End}
use Rattle.fws_net.specs.declared.transit.Transit.{Transit}
use Rattle.fws_net.specs.declared.view.View.{View}
use Rattle.fws_net.specs.Conditions.{holds}
use Rattle.fws_ifcl.specs.declared.step.ChainEnd.TheVariants.{Accepted, Through}
use Rattle.fws_ifcl.specs.Walk.{stage_end, rules_walk as walk_rules}
use Rattle.fws_ifcl_rules.specs.Places.{sight, run, Stands}
use Rattle.fws_pfo.specs.Walk.{moved, ended}
use Rattle.fws_pfo_ifcl.specs.declared.frame.Frame.{Frame}
use Rattle.fws_pfo_ifcl.specs.Blocks.{writing, held_rule, held_rules}
use Rattle.fws_pfo_ifcl.specs.Diagram.{pass_stage}
use Rattle.fws_pfo_ifcl.specs.Ends.{same_end, place_of}
use Rattle.fws_pfo_ifcl.specs.Held.{bits_of, told}
use Rattle.fws_pfo_ifcl.proofs.Acts.{acting_accepts}
use Rattle.fws_pfo_ifcl.proofs.Bits.{halves_same, half_below}
use Rattle.fws_pfo_ifcl.proofs.Courses.{Course}
use Rattle.fws_pfo_ifcl.proofs.Among.{end_exact, place_within}
use Rattle.fws_pfo_ifcl.proofs.Shown.{Agree, Shows, IsAmong, held_number, moved_alike, writing_done, writing_changes, ended_passed, ended_blocked}
use Rattle.fws_pfo_ifcl.proofs.Tags.{has, Tells}

-- The number of an end

below_one : (n : ℕ) → n < 1 → n ≡ 0
below_one n lt = omega (arith, lt)

-- a literal that asks whether a tag is there
asked : (a b x : Bool) → x ≡ a → cond (not b) (not x) x ≡ cond (not b) (not a) a
asked a b x is = ap (λ y. cond (not b) (not y) y) is

-- tags that tell a number tell no other one
pub told_holds : (w tag m n : ℕ) (v : View) → m < 2 ^ w → n < 2 ^ w → Tells tag (bits_of w m) v.tags → holds (told tag (bits_of w n)) v ≡ nat_eq m n
told_holds zero tag m n v low high tells =
    let first : m ≡ 0 = below_one m low in
    let second : n ≡ 0 = below_one n high in
    sym (eq-eqb m n (first ∙ sym second))
told_holds (suc w) tag m n v low high tells =
    asked_all (told_holds w (suc tag) (m / 2) (n / 2) v (half_below w m low) (half_below w n high) tells.1)
  where
    asked_all : holds (told (suc tag) (bits_of w (n / 2))) v ≡ nat_eq (m / 2) (n / 2) → holds (told tag (bits_of (suc w) n)) v ≡ nat_eq m n
    asked_all rest =
        ap (λ b. b && holds (told (suc tag) (bits_of w (n / 2))) v) (asked (nat_eq (m % 2) 1) (nat_eq (n % 2) 1) (has tag v.tags) tells.0)
        ∙ ap (λ b. cond (not (nat_eq (n % 2) 1)) (not (nat_eq (m % 2) 1)) (nat_eq (m % 2) 1) && b) rest
        ∙ halves_same m n

module _ (f : Frame) (w : Course New f.outward) (fits : length f.ends < 2 ^ f.bits) where
  -- one of the rules: where the tags tell its number, the end is written
  one_walk : (at n code : ℕ) (e : End) → n ≤ length f.ends → code ≤ length f.ends → Stands w at (held_rule f at n e) → (u : Transit) → Tells f.tags (bits_of f.bits code) u.tags
      → run w at u ≡ cond (nat_eq code n) (Accepted (moved w.p f.outward (Some e) u)) (run w (at + length (held_rule f at n e)) u)
  one_walk at n code e near far s u tells =
      let past = at + length (held_rule f at n e) in
      acting_accepts w at (told f.tags (bits_of f.bits n)) (writing f.outward (Some e)) (writing_changes f.outward (Some e)) s u
      ∙ ap (λ y. cond (holds (told f.tags (bits_of f.bits n)) (sight w u)) (Accepted y) (run w past u)) (writing_done w.p f.outward (Some e) u)
      ∙ ap (λ b. cond b (Accepted (moved w.p f.outward (Some e) u)) (run w past u))
      (told_holds f.bits f.tags code n (sight w u) (omega (arith, far, fits)) (omega (arith, near, fits)) tells)

  -- no number of these ends
  missed : (at n code : ℕ) (ends : List End) → code < n → n + length ends ≤ suc (length f.ends) → Stands w at (held_rules f at n ends) → (u : Transit)
      → Tells f.tags (bits_of f.bits code) u.tags → run w at u ≡ run w (at + length (held_rules f at n ends)) u
  missed at n code [] lt le s u tells =
      let same : at ≡ at + 0 = omega arith in
      ap (λ place. run w place u) same
  missed at n code (e ∷ ends) lt le s u tells =
      let here = held_rule f at n e in
      let place = at + length here in
      let more = held_rules f place (suc n) ends in
      let parts = w.law.parts place here more s refl in
      let many : length (here ++ more) ≡ length here + length more = length-append here more in
      let same : place + length more ≡ at + length (here ++ more) = omega (arith, many) in
      one_walk at n code e (omega (arith, le)) (omega (arith, lt, le)) parts.0 u tells
      ∙ cond-false (nat_eq code n) (Accepted (moved w.p f.outward (Some e) u)) (run w place u) (ne_eqb code n (λ is. apart is))
      ∙ missed place (suc n) code ends (omega (arith, lt)) (omega (arith, le)) parts.1 u tells
      ∙ ap (λ k. run w k u) same
    where
      apart : code ≡ n → ⊥
      apart is = omega (arith, lt, is)

  -- the number of one of them
  met : (at n code : ℕ) (ends : List End) (e : End) → list_any (same_end e) ends ≡ true → code ≡ n + place_of ends e → n + length ends ≤ suc (length f.ends)
      → Stands w at (held_rules f at n ends) → (u : Transit) → Tells f.tags (bits_of f.bits code) u.tags → run w at u ≡ Accepted (moved w.p f.outward (Some e) u)
  met at n code [] e is same le s u tells = absurd (false≢true is)
  met at n code (first ∷ ends) e is same le s u tells =
      let here = held_rule f at n first in
      let place = at + length here in
      let more = held_rules f place (suc n) ends in
      let parts = w.law.parts place here more s refl in
      let lt : place_of (first ∷ ends) e < suc (length ends) = place_within (first ∷ ends) e is in
      one_walk at n code first (omega (arith, le)) (omega (arith, same, lt, le)) parts.0 u tells
      ∙ by (same_end e first) refl is same (λ there later. met place (suc n) code ends e there later (omega (arith, le)) parts.1 u tells)
    where
      beyond : suc n + place_of ends e ≡ n → ⊥
      beyond far = omega (arith, far)

      -- the first one is it or another one
      by : (b : Bool) → same_end e first ≡ b → (b || list_any (same_end e) ends) ≡ true → code ≡ n + cond b 0 (suc (place_of ends e))
          → (list_any (same_end e) ends ≡ true → code ≡ suc n + place_of ends e → run w (at + length (held_rule f at n first)) u ≡ Accepted (moved w.p f.outward (Some e) u))
          → cond (nat_eq code n) (Accepted (moved w.p f.outward (Some first) u)) (run w (at + length (held_rule f at n first)) u) ≡ Accepted (moved w.p f.outward (Some e) u)
      by true found there number next =
          let one : code ≡ n = omega (arith, number) in
          cond-true (nat_eq code n) (Accepted (moved w.p f.outward (Some first) u)) (run w (at + length (held_rule f at n first)) u) (eq-eqb code n one)
          ∙ ap (λ x. Accepted (moved w.p f.outward (Some x) u)) (sym (end_exact e first found))
      by false found there number next =
          let later : code ≡ suc n + place_of ends e = omega (arith, number) in
          cond-false (nat_eq code n) (Accepted (moved w.p f.outward (Some first) u)) (run w (at + length (held_rule f at n first)) u)
          (ne_eqb code n (λ is. beyond (sym later ∙ is)))
          ∙ next there later

  -- behind all rules the verdict so far decides
  last_walk : (at : ℕ) → drop at w.full ≡ [] → (u : Transit) → run w at u ≡ Through u
  last_walk at none u = ap (λ rules. walk_rules w.enter w.site w.p New (pass_stage f.outward) at rules 0 u) none

  -- where rules end, with an end that is held or none
  pub held_walk : (at : ℕ) → Stands w at (held_rules f at 1 f.ends) → drop (at + length (held_rules f at 1 f.ends)) w.full ≡ [] → (may : Bool) (held : Option End) (t u : Transit)
      → Shows f may held t u → Agree f.tags (ended w.p f.outward held t) (stage_end (run w at u))
  held_walk at s none may held t u h = by t.verdict refl held (h.among) h.told
    where
      few : 1 + length f.ends ≤ suc (length f.ends)
      few = omega arith

      -- no end is held
      through : Tells f.tags (bits_of f.bits 0) u.tags → run w at u ≡ Through u
      through tells = missed at 1 0 f.ends (omega arith) few s u tells ∙ last_walk (at + length (held_rules f at 1 f.ends)) none u

      by : (v : Bool) → t.verdict ≡ v → (end : Option End) → (t.verdict ≡ true → IsAmong f end) → Tells f.tags (bits_of f.bits (held_number f end t.verdict)) u.tags
          → Agree f.tags (ended w.p f.outward end t) (stage_end (run w at u))
      by false is end among tells =
          let zeroth = subst (λ v. Tells f.tags (bits_of f.bits (held_number f end v)) u.tags) is tells in
          subst (λ x. Agree f.tags x (stage_end (run w at u))) (sym (ended_blocked w.p f.outward end t is))
          (subst (λ x. Agree f.tags None (stage_end x)) (sym (through zeroth))
          (subst (λ b. Agree f.tags None (cond b (Some u) None)) (sym (h.verdict ∙ is)) tt))
      by true is None among tells =
          let zeroth = subst (λ v. Tells f.tags (bits_of f.bits (held_number f None v)) u.tags) is tells in
          subst (λ x. Agree f.tags x (stage_end (run w at u))) (sym (ended_passed w.p f.outward None t is))
          (subst (λ x. Agree f.tags (Some t) (stage_end x)) (sym (through zeroth))
          (subst (λ b. Agree f.tags (Some t) (cond b (Some u) None)) (sym (h.verdict ∙ is)) h.alike))
      by true is (Some e) among tells =
          let number = subst (λ v. Tells f.tags (bits_of f.bits (held_number f (Some e) v)) u.tags) is tells in
          let one : suc (place_of f.ends e) ≡ 1 + place_of f.ends e = omega arith in
          subst (λ x. Agree f.tags x (stage_end (run w at u))) (sym (ended_passed w.p f.outward (Some e) t is))
          (subst (λ x. Agree f.tags (Some (moved w.p f.outward (Some e) t)) (stage_end x))
          (sym (met at 1 (suc (place_of f.ends e)) f.ends e (among is) one few s u number)) (moved_alike f.tags w.p f.outward (Some e) t u h.alike))
