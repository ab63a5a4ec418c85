use Rattle.std.proofs.Common.{◌≡◌, List, true, false, sym, ◌∙◌, ap, subst}
use Rattle.std.proofs.lemmas.Result.{IfOk-weaker}
use Rattle.fws_ios_put_entries.specs.declared.path.Path.{Path}
use Rattle.fws_ios_put_entries.specs.Paths.{top_of}
use Rattle.fws_ios_put_cover.specs.Boxes.{is_whole}
use Rattle.fws_ios_put_cover.specs.Steps.{AreAllNarrowed, AreStepped}
use Rattle.fws_ios_put_cover.proofs.Stepping.{narrowed_stepped, whole_stepped}
use Rattle.fws_ios_put_cover.proofs.asking.stepped_by.Goals as goal

pub returns-then-is_whole : goal.returns-then-is_whole
returns-then-is_whole c =
    let all : is_whole (top_of c.args.side) c.args.set.now ≡ true = sym (c.is_whole.ensures ∙ ap (λ n. is_whole n c.args.set.now) c.top_of.ensures) ∙ c.if-is_whole.true in
    whole_stepped c.args.side c.args.set.now c.args.paths all

pub returns : goal.returns
returns c =
    let part : is_whole (top_of c.args.side) c.args.set.now ≡ false = sym (c.is_whole.ensures ∙ ap (λ n. is_whole n c.args.set.now) c.top_of.ensures) ∙ c.if-is_whole.false in
    let P : List Path → Type 0 = λ paths. AreAllNarrowed c.args.side c.args.set.now c.as_slice.result.now paths in
    let Q : List Path → Type 0 = λ paths. AreStepped c.args.side c.args.set.now c.args.paths paths in
    IfOk-weaker c.all_narrowed.result P Q
    (λ paths h. narrowed_stepped c.args.side c.args.set.now c.args.paths paths part (subst (λ (l : List Path). AreAllNarrowed c.args.side c.args.set.now l paths) c.as_slice.ensures h)) c.all_narrowed.ensures
