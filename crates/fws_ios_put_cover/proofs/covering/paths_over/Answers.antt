use Rattle.std.proofs.Common.{◌≡◌, ℕ, Bool, true, Some, List, [], sym, subst}
use Rattle.std.proofs.lemmas.Result.{IfOk-weaker}
use Rattle.fws_box.specs.Sides.{IsWithin}
use Rattle.fws_net.specs.Points.{tops_of}
use Rattle.fws_tree.specs.declared.row.Row.{Row}
use Rattle.fws_tree.specs.Plain.{value}
use Rattle.fws_ios_put_entries.specs.declared.path.Path.{Path}
use Rattle.fws_ios_put_cover.specs.Covers.{ArePathsOver}
use Rattle.fws_ios_put_cover.specs.Inside.{true_row_has, AreFurther, HaveRows, IsGoodRow}
use Rattle.std.specs.Prelude.{All}
use Rattle.fws_ios_put_cover.proofs.Covered.{good_rows, paths_done, rows_all_hit}
use Rattle.fws_ios_put_cover.proofs.covering.paths_over.Goals as goal

pub put_rows-requires-clause-good : goal.put_rows-requires-clause-good
put_rows-requires-clause-good c =
    let site = c.args.site.now in
    let rows = c.in_ok-rows.rows.items in
    subst (λ (l : List (Row Bool)). All (IsGoodRow (tops_of site) c.args.within.now.1) l) (sym c.deref.ensures.value)
    (good_rows site c.args.needed.now.0 c.args.needed.now.1 c.args.within.now.1 rows c.requires.needed_tops c.in_ok-rows.ensures.rows c.tops-tops.ensures.reduced c.in_ok-rows.ensures.right
    c.requires.needed_listed c.requires.part)

pub returns : goal.returns
returns c =
    let site = c.args.site.now in
    let e = c.args.established in
    let needed = c.args.needed.now.1 in
    let within = c.args.within.now.1 in
    let rows = c.in_ok-rows.rows.items in
    let kept = c.put_rows.new.kept.keys in
    let hit : (x : List ℕ) → IsWithin (tops_of site) x → value needed x ≡ Some true → true_row_has rows x ≡ true =
    rows_all_hit site c.args.needed.now.0 needed rows c.requires.needed_tops c.in_ok-rows.ensures.once c.in_ok-rows.ensures.right in
    let F : List Path → Type 0 = λ l. AreFurther site e within l kept × HaveRows site e c.deref.result.now kept in
    let G : List (Row Bool) → Type 0 = λ l. AreFurther site e within [] kept × HaveRows site e l kept in
    let got = subst G c.deref.ensures.value (subst F c.new-kept.ensures.empty c.in_ok-put_rows.ensures) in
    let P : List Path → Type 0 = λ paths. paths ≡ kept in
    let Q : List Path → Type 0 = λ paths. ArePathsOver site e needed within paths in
    IfOk-weaker c.listed.result P Q (λ paths is. subst Q (sym is) (paths_done site e needed within rows kept hit c.requires.tcp got)) c.listed.ensures
