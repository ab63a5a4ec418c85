use Rattle.std.proofs.Common.{◌-◌, ◌<◌, ◌++◌, ◌∷◌, [], false, length, sym, ◌∙◌, ap, subst, arith, append_assoc}
use Rattle.fws_ios_put_entries.specs.declared.path.Path.{Path}
use Rattle.fws_ios_put_lists.specs.Blocks.{scene, Scene}
use Rattle.fws_ios_put_lists.specs.Entries.{IsEntry}
use Rattle.fws_ios_put_lists.proofs.Listing.{denied_entries, longer, longer_by}
use Rattle.fws_ios_put_lists.proofs.put.put_all.Goals as goal

pub returns-in_ok-put_entry : goal.returns-in_ok-put_entry
returns-in_ok-put_entry c =
    let sheet = c.args.sheet.now in
    let s : Scene = scene sheet.tree.now.0 sheet.tree.now.1 sheet.leaves.now sheet.nodes.now in
    let put = c.in_ok-put_last.ensures in
    let own = c.in_ok-put_entry.ensures in (
      put.0 ++ own.0 ∷ [],
      own.1 ∙ ap (λ l. l ++ own.0 ∷ []) put.1 ∙ append_assoc c.args.entries.now put.0 (own.0 ∷ []),
      longer put.0 own.0,
      denied_entries s sheet.keep (length s.nodes - 1) put.0 own.0 put.2 (subst (λ (p : Path). IsEntry false sheet.keep p own.0) c.whole_path.ensures own.2),
    )

pub returns-else-len-before : goal.returns-else-len-before
returns-else-len-before c =
    let put = c.in_ok-put_last.ensures in
    let now = c.len.ensures in
    let before = c.len-before.ensures in
    let differs = c.if-len-before.false in
    let some : 0 < length put.0 = longer_by c.args.entries.now put.0 c.len.result (sym (now ∙ ap length put.1)) (λ e. omega (arith, e, before, differs)) in
    (put.0, put.1, some, put.2)
