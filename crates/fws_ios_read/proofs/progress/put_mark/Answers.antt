use Rattle.std.proofs.Common.{List, ◌++◌, ◌∷◌, [], not, nat_eq, ap, ◌∙◌, rules}
use Rattle.std.proofs.lemmas.Fn.{filter_same}
use Rattle.fws_ios.specs.declared.draft.Marked.{Marked}
use Rattle.fws_ios_read.proofs.progress.put_mark.Goals as goal

pub returns : goal.returns
returns c =
    c.in_ok-push.ensures.items
    ∙ ap (λ (ms : List Marked). ms ++ c.args.mark ∷ [])
    (filter_same _ (λ other. not (nat_eq other.face c.args.mark.face)) _ (λ other b f q. search rules) _ _ c.retain.ensures.filtered)
