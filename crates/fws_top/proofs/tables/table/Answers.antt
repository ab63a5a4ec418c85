use Rattle.std.proofs.Common.{◌≡◌, ℕ, List}
use Rattle.std.proofs.lemmas.Result.{IfOk-weaker}
use Rattle.fws_table.specs.TableText.{table_text}
use Rattle.fws_top.specs.Tables.{IsTable}
use Rattle.fws_top.proofs.tables.table.Goals as goal

pub returns : goal.returns
returns c = λ walk does.
    let site = c.args.site.now in
    let P : List ℕ → Type 0 = λ text. text ≡ table_text site c.args.state c.in_ok-tree.tree.1 in
    IfOk-weaker c.put_table.result P (IsTable site c.args.state walk) (λ text spelled. record {
      tree = c.in_ok-tree.tree.1;
      reduced = c.in_ok-tree.ensures.reduced;
      walked = c.in_ok-tree.ensures.walked walk does;
      spelled = spelled;
    }) c.put_table.ensures
