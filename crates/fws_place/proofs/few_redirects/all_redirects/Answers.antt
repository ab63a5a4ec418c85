use Rattle.std.proofs.Common.{◌≡◌, ℕ, List, sym, ◌∙◌, subst, All}
use Rattle.std.proofs.lemmas.List.Elements.{All-weaker}
use Rattle.fws_box.specs.Sides.{IsWithin}
use Rattle.fws_net.specs.Points.{tops_of}
use Rattle.fws_tree.specs.Rows.{row_hits}
use Rattle.fws_net.specs.declared.outcome.Outcome.{Outcome}
use Rattle.fws_tree.specs.declared.row.Row.{Row}
use Rattle.fws_place.specs.declared.few_redirects.Collected.{Collected}
use Rattle.fws_place.specs.Counts.{new_rows}
use Rattle.fws_place.specs.RowRedirects.{AreAllOf, AreGathered, IsFirstMany, IsServed}
use Rattle.fws_place.proofs.ShownRedirects.{all_shown, all_somewhere, all_sound, good_served, IsGood, many_unmet, rows_good}
use Rattle.fws_place.proofs.few_redirects.all_redirects.Goals as goal

pub gathered-requires : goal.gathered-requires
gathered-requires c =
    let site = c.args.site.now in
    let tables = c.args.tables.now in
    let kept = c.in_ok-rows.ensures in
    subst (λ (l : List (Row Outcome)). All IsServed l) (sym c.deref.ensures.value)
    (All-weaker (IsGood site tables) IsServed (good_served site tables) c.in_ok-rows.rows.items
    (rows_good site tables c.requires.regular c.tops-tops.ensures.reduced c.in_ok-rows.rows.items kept.rows kept.right))

pub returns : goal.returns
returns c =
    let site = c.args.site.now in
    let tables = c.args.tables.now in
    let kept = c.in_ok-rows.ensures in
    let same : c.deref.result.now ≡ new_rows tables = c.deref.ensures.value ∙ kept.rows in
    let good : All (IsGood site tables) (new_rows tables) = subst (λ (l : List (Row Outcome)). All (IsGood site tables) l) kept.rows
    (rows_good site tables c.requires.regular c.tops-tops.ensures.reduced c.in_ok-rows.rows.items kept.rows kept.right) in
    let all : AreAllOf (new_rows tables) c.in-Few.met.keys = subst (λ (l : List (Row Outcome)). AreAllOf l c.in-Few.met.keys) same
    (subst (λ (g : Collected). AreGathered c.deref.result.now g) c.in-Few.is c.in_ok-met.ensures) in
    let once : (q : List ℕ) → IsWithin (tops_of site) q → row_hits (new_rows tables) q ≡ 1
    = λ q w. subst (λ (l : List (Row Outcome)). row_hits l q ≡ 1) kept.rows (kept.once q (subst (λ ts. IsWithin ts q) (sym c.requires.regular.fresh_tops) w)) in
    record {
      shown = all_shown site tables c.in-Few.met.keys good once all;
      sound = all_sound site tables c.in-Few.met.keys good all;
      few = all.few;
      somewhere = all_somewhere (new_rows tables) c.in-Few.met.keys all;
      different = all.different;
    }

pub unreachable-requires : goal.unreachable-requires
unreachable-requires c =
    let site = c.args.site.now in
    let tables = c.args.tables.now in
    let kept = c.in_ok-rows.ensures in
    let same : c.deref.result.now ≡ new_rows tables = c.deref.ensures.value ∙ kept.rows in
    let good : All (IsGood site tables) (new_rows tables) = subst (λ (l : List (Row Outcome)). All (IsGood site tables) l) kept.rows
    (rows_good site tables c.requires.regular c.tops-tops.ensures.reduced c.in_ok-rows.rows.items kept.rows kept.right) in
    let many : IsFirstMany (new_rows tables) c.in-Many.field-0 = subst (λ (l : List (Row Outcome)). IsFirstMany l c.in-Many.field-0) same
    (subst (λ (g : Collected). AreGathered c.deref.result.now g) c.in-Many.is c.in_ok-met.ensures) in
    many_unmet site tables c.requires.regular c.tops-tops.ensures.reduced c.in-Many.field-0 good many c.requires.few
