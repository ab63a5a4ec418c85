use Rattle.std.proofs.Common.{◌≡◌, ◌<◌, ◌≤◌, ◌+◌, ◌∙◌, ℕ, true, false, List, refl, max, arith, length, slice_index_or}
use Rattle.std.proofs.lemmas.Bool.{both_ways}
use Rattle.fws_iv.specs.declared.iv.Iv.{Iv}
use Rattle.fws_iv.specs.Ivs.{has}
use Rattle.fws_iv.proofs.Parts.{has_below, regular-drop, regular_at, has_within, has_before, has_behind}
use Rattle.fws_iv.proofs.find.overlap.Goals as goal
use Rattle.fws_iv.proofs.find.overlap.Goals.{else-parts-i-via-then-parts-i+else-hi-parts, else-parts-i-via-else-parts-i}

abbrev nought : Iv
nought = record { lo = 0; hi = 0 }

pub begins_by-requires : goal.begins_by-requires
begins_by-requires c = regular-drop 0 _ _ c.requires.regular

pub returns-then-not-begins_by-clause-apart : goal.returns-then-not-begins_by-clause-apart
returns-then-not-begins_by-clause-apart c =
    let late = c.begins_by.ensures.no c.if-not-begins_by.true in
    (λ e v from to. c.first_reaching-i.ensures.members v from ∙ has_below _ _ late v (omega arith), λ none. refl)

pub returns-then-not-begins_by-clause-whole : goal.returns-then-not-begins_by-clause-whole
returns-then-not-begins_by-clause-whole c =
    let lo : ℕ = c.args.lo in
    let late = c.begins_by.ensures.no c.if-not-begins_by.true in
    let out : has c.args.parts.now lo ≡ false = c.first_reaching-i.ensures.members lo (omega arith) ∙ has_below _ _ late lo (omega arith) in
    (λ e. absurd (cc), λ whole. absurd (both_ways _ out (whole lo (omega arith) c.requires.order)))

pub returns-then-hi-parts-clause-apart : goal.returns-then-hi-parts-clause-apart
returns-then-hi-parts-clause-apart c =
    let parts : List Iv = c.args.parts.now in
    let i : ℕ = c.first_reaching-i.result in
    let lo : ℕ = c.args.lo in
    let inside : i < length parts = (c.begins_by.ensures.yes c.if-not-begins_by.false).0 in
    let there : has parts lo ≡ true = c.first_reaching-i.ensures.members lo (omega arith)
    ∙ has_within parts i nought lo inside c.if-parts-i.true (c.first_reaching-i.ensures.reaches nought inside) in
    (λ e. absurd (cc), λ none. absurd (both_ways _ (none lo (omega arith) c.requires.order) there))

pub returns-else-parts-i-clause-apart : goal.returns-else-parts-i-clause-apart
returns-else-parts-i-clause-apart c =
    let parts : List Iv = c.args.parts.now in
    let i : ℕ = c.first_reaching-i.result in
    let met = c.begins_by.ensures.yes c.if-not-begins_by.false in
    let inside : i < length parts = met.0 in
    let begins : (slice_index_or parts i nought).lo ≤ c.args.hi = met.1 nought in
    let reaches : c.args.lo ≤ (slice_index_or parts i nought).hi = c.first_reaching-i.ensures.reaches nought inside in
    let here = regular_at 0 parts i nought inside (regular-drop 0 parts i c.requires.regular) in
    let v : ℕ = max c.args.lo (slice_index_or parts i nought).lo in
    let there : has parts v ≡ true = c.first_reaching-i.ensures.members v (omega arith)
    ∙ has_within parts i nought v inside (omega arith) (omega (arith, here)) in
    (λ e. absurd (cc), λ none. absurd (both_ways _ (none v (omega arith) (omega arith)) there))

pub returns-else-parts-i-clause-whole : goal.returns-else-parts-i-clause-whole
returns-else-parts-i-clause-whole c =
    let parts : List Iv = c.args.parts.now in
    let i : ℕ = c.first_reaching-i.result in
    let inside : i < length parts = (c.begins_by.ensures.yes c.if-not-begins_by.false).0 in
    let reaches : c.args.lo ≤ (slice_index_or parts i nought).hi = c.first_reaching-i.ensures.reaches nought inside in
    let rest = regular-drop 0 parts i c.requires.regular in (
      λ e. absurd (cc),
      λ whole. absurd (elim c.else-parts-i.branch [
        | else-parts-i-via-then-parts-i+else-hi-parts w ↦
            let v : ℕ = (slice_index_or parts i nought).hi + 1 in
            both_ways _ (c.first_reaching-i.ensures.members v (omega arith) ∙ has_behind 0 parts i nought inside rest) (whole v (omega arith) (omega arith))
        | else-parts-i-via-else-parts-i w ↦
            both_ways _ (c.first_reaching-i.ensures.members c.args.lo (omega arith) ∙ has_before 0 parts i nought c.args.lo inside rest (omega arith)) (whole c.args.lo (omega arith) c.requires.order)
      ]),
    )
