use Rattle.std.proofs.Common.{ℕ, List, [], ◌∷◌, ◌++◌, ap, ◌∙◌}
use Rattle.fws_unfold.specs.declared.stack.Call.{Call}
use Rattle.fws_unfold.specs.Stacks.{joined}
use Rattle.fws_unfold.proofs.Stacks.{joined_more}
use Rattle.fws_unfold.proofs.stack.Stack.push.Goals as goal

pub returns-clause-frames : goal.returns-clause-frames
returns-clause-frames c =
    let calls = c.args.self.now.calls.items in
    let starts = c.args.self.now.starts.items in
    let f = c.args.frame in
    let call : Call = record { chain = f.chain; back = f.back; left = f.left; next = f.next } in
    ap (λ (ks : List Call). joined ks c.push-2.new.self.items) c.in_ok-push.ensures.ok
    ∙ ap (λ (ss : List (List ℕ)). joined (calls ++ call ∷ []) ss) c.in_ok-push-2.ensures.items
    ∙ joined_more calls starts call f.starts c.requires
