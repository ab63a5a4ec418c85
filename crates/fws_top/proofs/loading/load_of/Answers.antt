use Rattle.std.proofs.Common.{◌≡◌, ℕ, List}
use Rattle.std.proofs.lemmas.Result.{IfOk-weaker}
use Rattle.fws_top.specs.Loads.{IsLoad, load_line}
use Rattle.fws_top.proofs.Holding.{line_of}
use Rattle.fws_top.proofs.loading.load_of.Goals as goal

pub returns : goal.returns
returns c = λ walk made.
    let n = c.args.n in
    let placed = c.in_ok-placed.placed in
    let P : List ℕ → Type 0 = λ line. line ≡ load_line n c.in_ok-fresh.fresh c.in_ok-est.est placed in
    IfOk-weaker c.load_line.result P (IsLoad n c.args.site.now walk) (λ line said. record {
      tables = c.args.tables.now;
      made = made;
      placed = placed;
      held = c.in_ok-placed.ensures;
      says_so = line_of n line _ _ _ _ placed c.in_ok-fresh.ensures c.in_ok-est.ensures said;
    }) c.load_line.ensures
