-- What is known of the trees that are put, and of the marks.
use Rattle.std.proofs.Common.{◌≡◌, ◌≢◌, ℕ, zero, suc, ◌+◌, ◌<◌, ◌≤◌, Bool, true, false, cond, IsTrue, nat_lt, slice_index, slice_index_or, Option, Some, None, position, List, [], ◌∷◌, length, map, All, arith, refl, sym, ap, ◌∙◌, subst}
use Rattle.std.proofs.lemmas.Bool.{false≢true, and_parts, ltb-true}
use Rattle.std.proofs.lemmas.List.Elements.{All-head, All-tail, All-weaker}
use Rattle.std.proofs.lemmas.List.{length-map}
use Rattle.std.specs.List.{position_or_len}
use Rattle.std.specs.Option.{option_map_or}
use Rattle.fws_box.specs.Sides.{IsWithin, sides_have}
use Rattle.fws_iv.specs.declared.iv.Iv.{Iv}
use Rattle.fws_iv.specs.Ivs.{has}
use Rattle.fws_net.specs.declared.outcome.Outcome.{Outcome}
use Rattle.fws_net.specs.declared.outcome.Outcome.TheVariants.{Drop, Accept}
use Rattle.fws_net.specs.declared.outcome.Rewrite.{Rewrite}
use Rattle.fws_tree.specs.declared.row.Row.{Row}
use Rattle.fws_tree.specs.Plain.{Plain, value}
use Rattle.fws_tree.specs.Rows.{row_hits}
use Rattle.fws_tree_seen.specs.SightLaws.{HasImages}
use Rattle.fws_ipt_put_chains.specs.declared.verdict.Verdict.{Verdict}
use Rattle.fws_ipt_put_chains.specs.declared.verdict.Verdict.TheVariants as verdicts
use Rattle.fws_ipt_put.specs.declared.marks.Mark.{Mark}
use Rattle.fws_ipt_put.specs.Drafts.{SetsMarks}
use Rattle.fws_ipt_put.specs.Gathered.{HaveRewrites, IsRewriteOf, TellsOf, TellsOfAll, side}
use Rattle.fws_ipt_put.specs.Marks.{AreMarks, HasRewrites, HaveBlocks, IsMarkOf, mark_at, marked, passing, same_rewrite, verdict_of, writes}
use Rattle.fws_ipt_put.proofs.Lists.{none_is, some_is}
use Rattle.fws_ipt_put.proofs.Printing.{FitsMark}

-- Marks that trees set

passing_none : (b : Bool) (v : ℕ) → passing b ≡ verdicts.Mark v → ⊥
passing_none true v h = cc
passing_none false v h = cc

pub sets_none : (tops : List ℕ) (t : Plain Bool) (u : Plain Verdict) → HasImages tops passing t u → SetsMarks tops 0 u
sets_none tops t u made p v within is =
    let at = made p within in
    absurd (passing_none at.0 v (some_is (sym at.2 ∙ is)))

position_low : (test : Rewrite → Bool) (xs : List Rewrite) (i : ℕ) → position test xs ≡ Some i → i < length xs
position_low test xs i is = by_test (nat_lt (position_or_len test xs) (length xs)) refl is where
  by_test : (b : Bool) → nat_lt (position_or_len test xs) (length xs) ≡ b → cond b (Some (position_or_len test xs)) None ≡ Some i → i < length xs
  by_test true low h = subst (λ n. n < length xs) (some_is h) (ltb-true (position_or_len test xs) (length xs) low)
  by_test false low h = absurd (none_is h)

marks_low : (rewrites : List Rewrite) (o : Outcome) (v : ℕ) → verdict_of rewrites o ≡ verdicts.Mark v → (5 ≤ v) × (v < length rewrites + 5)
marks_low rewrites Drop v h = absurd (drop_isnt h) where
  drop_isnt : verdicts.Drop ≡ verdicts.Mark v → ⊥
  drop_isnt h = cc
marks_low rewrites (Accept w) v h = by_writing (writes w) h where
  by_place : (o : Option ℕ) → position (same_rewrite w) rewrites ≡ o → option_map_or (λ i. verdicts.Mark (mark_at i)) o verdicts.Drop ≡ verdicts.Mark v → (5 ≤ v) × (v < length rewrites + 5)
  by_place None is h = absurd (drop_isnt h) where
    drop_isnt : verdicts.Drop ≡ verdicts.Mark v → ⊥
    drop_isnt h = cc
  by_place (Some i) is h =
      let same : i + 5 ≡ v = same_mark h in
      let low = position_low (same_rewrite w) rewrites i is in
      (omega (arith, same), omega (arith, same, low)) where
        same_mark : verdicts.Mark (i + 5) ≡ verdicts.Mark v → i + 5 ≡ v
        same_mark h = cc

  by_writing : (b : Bool) → cond b (marked rewrites w) verdicts.Accept ≡ verdicts.Mark v → (5 ≤ v) × (v < length rewrites + 5)
  by_writing true h = by_place (position (same_rewrite w) rewrites) refl h
  by_writing false h = absurd (accept_isnt h) where
    accept_isnt : verdicts.Accept ≡ verdicts.Mark v → ⊥
    accept_isnt h = cc

pub sets_marks : (tops : List ℕ) (t : Plain Outcome) (u : Plain Verdict) (rewrites : List Rewrite) (marks : List Mark) → HasImages tops (verdict_of rewrites) t u
    → map (λ (mark : Mark). mark.rewrite) marks ≡ rewrites → SetsMarks tops (length marks) u
sets_marks tops t u rewrites marks made same p v within is =
    let at = made p within in
    let low = marks_low rewrites at.0 v (some_is (sym at.2 ∙ is)) in
    let long : length marks ≡ length rewrites = sym (length-map marks (λ (mark : Mark). mark.rewrite)) ∙ ap length same in
    (low.0, omega (arith, low.1, long))

-- Rows

-- the row in which a point lies
pub record RowAt (P : Row Outcome → Type 0) (p : List ℕ) : Type 0 where
  pub row : Row Outcome
  pub holds : sides_have row.sides p ≡ true
  pub such : P row

row_step : (P : Row Outcome → Type 0) (r : Row Outcome) (p : List ℕ) (hits : ℕ) → P r → (here : Bool) → sides_have r.sides p ≡ here → cond here 1 0 + hits ≢ 0 → (hits ≢ 0 → RowAt P p) → RowAt P p
row_step P r p hits such true is some later = record { row = r; holds = is; such = such }
row_step P r p hits such false is some later = later (λ none. some (ap (λ n. 0 + n) none))

row_at : (P : Row Outcome → Type 0) (rows : List (Row Outcome)) (p : List ℕ) → All P rows → row_hits rows p ≢ 0 → RowAt P p
row_at P [] p all some = absurd (some refl)
row_at P (r ∷ rows) p all some =
    row_step P r p (row_hits rows p) (All-head P r rows all) (sides_have r.sides p) refl some (row_at P rows p (All-tail P r rows all))

side_has : (sides : List (List Iv)) (p : List ℕ) (f : ℕ) → f < length sides → sides_have sides p ≡ true → has (slice_index_or sides f []) (slice_index p f) ≡ true
side_has [] p f low h = absurd (omega (arith, low))
side_has (s ∷ sides) [] f low h = absurd (false≢true h)
side_has (s ∷ sides) (x ∷ p) zero low h = (and_parts (has s x) (sides_have sides p) h).0
side_has (s ∷ sides) (x ∷ p) (suc f) low h = side_has sides p f (omega (arith, low)) (and_parts (has s x) (sides_have sides p) h).1

-- what rows tell of the values of a tree
pub record AreRowsOf (tops : List ℕ) (t : Plain Outcome) (rows : List (Row Outcome)) : Type 0 where
  pub once : (p : List ℕ) → IsWithin tops p → row_hits rows p ≡ 1
  pub right : (p : List ℕ) → IsWithin tops p → All (λ (row : Row Outcome). IsTrue (sides_have row.sides p) → value t p ≡ Some row.leaf) rows

both_hold : {X : Type 0} (P Q : X → Type 0) (xs : List X) → All P xs → All Q xs → All (λ x. P x × Q x) xs
both_hold P Q xs first second = λ k d below. (first k d below, second k d below)

not_none : (n : ℕ) → n ≡ 1 → n ≢ 0
not_none n one none = omega (arith, one, none)

module _ (tops : List ℕ) (t : Plain Outcome) (rows : List (Row Outcome)) (are : AreRowsOf tops t rows) where
  -- a row with the value of a point
  value_row : (P : Row Outcome → Type 0) → All P rows → (p : List ℕ) → IsWithin tops p → (o : Outcome) → value t p ≡ Some o
      → RowAt (λ (row : Row Outcome). P row × (row.leaf ≡ o)) p
  value_row P all p within o is =
      let Q : Row Outcome → Type 0 = λ (row : Row Outcome). IsTrue (sides_have row.sides p) → value t p ≡ Some row.leaf in
      let found = row_at (λ row. P row × Q row) rows p (both_hold P Q rows all (are.right p within)) (not_none (row_hits rows p) (are.once p within)) in
      record {
        row = found.row;
        holds = found.holds;
        such = (found.such.0, some_is (sym (found.such.1 found.holds) ∙ is));
      }

  pub has_rewrites : (rewrites : List Rewrite) → HaveRewrites rewrites rows → HasRewrites tops t rewrites
  has_rewrites rewrites have p w within is writing =
      let found = value_row (λ (row : Row Outcome). IsRewriteOf rewrites row.leaf) have p within (Accept w) is in
      subst (IsRewriteOf rewrites) found.such.1 found.such.0 writing

  mark_row : (mark : Mark) → TellsOfAll rows mark → (p : List ℕ) → IsWithin tops p → value t p ≡ Some (Accept mark.rewrite) → RowAt (TellsOf mark) p
  mark_row mark tells p within is =
      let found = value_row (λ (row : Row Outcome). row.leaf ≡ Accept mark.rewrite → TellsOf mark row) tells.of_rows p within (Accept mark.rewrite) is in
      record { row = found.row; holds = found.holds; such = found.such.0 found.such.1 }

  field_has : (mark : Mark) (p : List ℕ) (found : RowAt (TellsOf mark) p) (f : ℕ) → f < 12 → has (side f found.row) (slice_index p f) ≡ true
  field_has mark p found f low =
      let twelve = found.such.twelve in
      side_has found.row.sides p f (omega (arith, low, twelve)) found.holds

  pub mark_known : (mark : Mark) → TellsOfAll rows mark → IsMarkOf tops t mark
  mark_known mark tells = record {
    tcp = λ p within is six.
        let found = mark_row mark tells p within is in
        found.such.tcp (subst (λ n. has (side 1 found.row) n ≡ true) six (field_has mark p found 1 (omega arith)));
    udp = λ p within is udp.
        let found = mark_row mark tells p within is in
        found.such.udp (subst (λ n. has (side 1 found.row) n ≡ true) udp (field_has mark p found 1 (omega arith)));
    arrives = λ p within is other.
        let found = mark_row mark tells p within is in
        found.such.arrives (slice_index p 0) (field_has mark p found 0 (omega arith)) other;
    sends = λ p within is host.
        let found = mark_row mark tells p within is in
        found.such.sends (subst (λ n. has (side 0 found.row) n ≡ true) host (field_has mark p found 0 (omega arith)));
    dst = λ p within is network.
        let found = mark_row mark tells p within is in
        found.such.dst network (slice_index p 2) (field_has mark p found 2 (omega arith));
    src = λ p within is network.
        let found = mark_row mark tells p within is in
        found.such.src network (slice_index p 4) (field_has mark p found 4 (omega arith));
    dst_blocks = tells.dst_blocks;
    src_blocks = tells.src_blocks;
    dst_sound = tells.dst_sound;
    src_sound = tells.src_sound;
    dst_fits = tells.dst_fits;
    src_fits = tells.src_fits;
  }

  pub marks_known : (marks : List Mark) → All (TellsOfAll rows) marks → All (IsMarkOf tops t) marks
  marks_known marks tell = All-weaker (TellsOfAll rows) (IsMarkOf tops t) mark_known marks tell

pub are_marks : (tops : List ℕ) (t : Plain Outcome) (rows : List (Row Outcome)) (rewrites : List Rewrite) (marks : List Mark) → AreRowsOf tops t rows → HaveRewrites rewrites rows
    → map (λ (mark : Mark). mark.rewrite) marks ≡ rewrites → All (TellsOfAll rows) marks → AreMarks tops t rewrites marks
are_marks tops t rows rewrites marks are have same tell = record { has = has_rewrites tops t rows are rewrites have; marked = same; known = marks_known tops t rows are marks tell }

pub known_fit : (tops : List ℕ) (t : Plain Outcome) (marks : List Mark) → All (IsMarkOf tops t) marks → All FitsMark marks
known_fit tops t marks known = All-weaker (IsMarkOf tops t) FitsMark
    (λ mark m. record { dst_fits = m.dst_fits; src_fits = m.src_fits; dst_blocks = m.dst_blocks; src_blocks = m.src_blocks }) marks known

pub known_blocks : (tops : List ℕ) (t : Plain Outcome) (marks : List Mark) → All (IsMarkOf tops t) marks → All HaveBlocks marks
known_blocks tops t marks known = All-weaker (IsMarkOf tops t) HaveBlocks (λ mark m. (m.dst_sound, m.src_sound)) marks known
