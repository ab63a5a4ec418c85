-- How classes are sent to a spot, one after another, and where they stand.
use Rattle.std.proofs.Common.{◌≡◌, ◌≢◌, ℕ, ◌+◌, ◌<◌, Bool, true, false, cond, ◌||◌, nat_eq, Option, Some, None, option_map, List, get_or, length, set, take, slice_get, inl, inr, refl, sym, ◌∙◌, ap}
use Rattle.std.specs.Option.{option_map_or}
use Rattle.std.proofs.lemmas.Bool.{eq-eqb, eqb-true, cases_Bool, false≢true}
use Rattle.std.proofs.lemmas.Option.{slice_get-get_or}
use Rattle.fws_exec.specs.declared.spot.Class.{Class}
use Rattle.fws_exec.specs.declared.spot.Spot.{Spot}
use Rattle.fws_exec.specs.declared.spot.Spot.TheVariants.{Unused, Dropped, At, Before}
use Rattle.fws_exec.specs.declared.spot.Stage.{Stage}
use Rattle.fws_exec.specs.declared.spot.Stage.TheVariants.{Arrive, Deliver, Forward, Send}
use Rattle.fws_exec.specs.Classes.{same_spot, same_stage}
use Rattle.fws_exec.specs.Sheets.{among, stands, StandsAt, AreSent}
use Rattle.fws_exec.proofs.Listing.{among_more}
use Rattle.fws_exec.proofs.Moved.{or_right}
use Rattle.fws_exec.proofs.Putting.{put_set, same_or_not, stands_of}
use Rattle.fws_exec.proofs.Turning.{same_stages}

unequal : (m n : ℕ) → m ≢ n → nat_eq m n ≡ false
unequal m n d = elim (cases_Bool (nat_eq m n)) [ inl e ↦ absurd (d (eqb-true m n e)) | inr e ↦ e ]

-- a class that is sent twice is sent
twice : (spot : Spot) (b : Bool) (o : Option Class) → option_map {T = Class} (λ c. record c { spot = spot }) (cond b (option_map {T = Class} (λ c. record c { spot = spot }) o) o) ≡ option_map {T = Class} (λ c. record c { spot = spot }) o
twice spot true None = refl
twice spot true (Some c) = refl
twice spot false o = refl

-- one more class is sent
pub sent_more : (spot : Spot) (xs : List ℕ) (k : ℕ) (old now : List Class) (d e : Class) → k < length xs → get_or xs k 0 < length now → AreSent spot (among (take k xs)) old now → d ≡ get_or now (get_or xs k 0) e
    → AreSent spot (among (take (k + 1) xs)) old (set now (get_or xs k 0) (record d { spot = spot }))
sent_more spot xs k old now d e lt within sent is n =
    let put = put_set now (get_or xs k 0) (record d { spot = spot }) within in
    elim (same_or_not n (get_or xs k 0)) [
      | inl here ↦ (
          let got : slice_get now n ≡ Some d = ap (λ j. slice_get now j) here ∙ slice_get-get_or now (get_or xs k 0) e within ∙ ap Some (sym is) in
          let called : among (take (k + 1) xs) n ≡ true = or_right (among (take k xs) n) (nat_eq n (get_or xs k 0)) (among (take (k + 1) xs) n) (among_more xs k n lt) (eq-eqb n (get_or xs k 0) here) in
          ap (λ j. slice_get (set now (get_or xs k 0) (record d { spot = spot })) j) here ∙ put.0
          ∙ sym (ap (λ b. cond b (option_map {T = Class} (λ c. record c { spot = spot }) (slice_get old n)) (slice_get old n)) called
          ∙ sym (twice spot (among (take k xs) n) (slice_get old n)) ∙ ap (option_map {T = Class} (λ c. record c { spot = spot })) (sym (sent n) ∙ got)))
      | inr away ↦ put.1 n away ∙ sent n
          ∙ ap (λ b. cond b (option_map {T = Class} (λ c. record c { spot = spot }) (slice_get old n)) (slice_get old n)) (sym (among_more xs k n lt ∙ ap (λ b. among (take k xs) n || b) (unequal n (get_or xs k 0) away) ∙ or_false (among (take k xs) n)))
    ]
  where
    or_false : (b : Bool) → (b || false) ≡ b
    or_false true = refl
    or_false false = refl

-- spots that are the same
same_spots : (a b : Spot) → same_spot a b ≡ true → b ≡ a
same_spots Unused Unused h = refl
same_spots Unused Dropped h = absurd (false≢true h)
same_spots Unused (At n) h = absurd (false≢true h)
same_spots Unused (Before t) h = absurd (false≢true h)
same_spots Dropped Unused h = absurd (false≢true h)
same_spots Dropped Dropped h = refl
same_spots Dropped (At n) h = absurd (false≢true h)
same_spots Dropped (Before t) h = absurd (false≢true h)
same_spots (At m) Unused h = absurd (false≢true h)
same_spots (At m) Dropped h = absurd (false≢true h)
same_spots (At m) (At n) h = ap At (sym (eqb-true m n h))
same_spots (At m) (Before t) h = absurd (false≢true h)
same_spots (Before s) Unused h = absurd (false≢true h)
same_spots (Before s) Dropped h = absurd (false≢true h)
same_spots (Before s) (At n) h = absurd (false≢true h)
same_spots (Before s) (Before t) h = ap Before (same_stages s t h)

stage_self : (s : Stage) → same_stage s s ≡ true
stage_self Arrive = refl
stage_self Deliver = refl
stage_self Forward = refl
stage_self Send = refl

spot_self : (a : Spot) → same_spot a a ≡ true
spot_self Unused = refl
spot_self Dropped = refl
spot_self (At m) = eq-eqb m m refl
spot_self (Before s) = stage_self s

pub stands_at : (spot : Spot) (cs : List Class) (n : ℕ) → stands (same_spot spot) cs n ≡ true → StandsAt spot cs n
stands_at spot cs n h = by (slice_get cs n) refl
  where
    by : (o : Option Class) → o ≡ slice_get cs n → StandsAt spot cs n
    by None e = absurd (false≢true (ap (λ (o : Option Class). option_map_or (λ c. same_spot spot c.spot) o false) e ∙ h))
    by (Some c) e = (c.progress, sym e ∙ ap (λ (s : Spot). Some (record { spot = s; progress = c.progress })) (same_spots spot c.spot (sym (stands_of (same_spot spot) cs n c (sym e)) ∙ h)))

pub at_stands : (spot : Spot) (cs : List Class) (n : ℕ) → StandsAt spot cs n → stands (same_spot spot) cs n ≡ true
at_stands spot cs n at = stands_of (same_spot spot) cs n (record { spot = spot; progress = at.0 }) at.1 ∙ spot_self spot
