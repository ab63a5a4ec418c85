use Rattle.std.proofs.Common.{arith, ◌≡◌, ℕ, List, [], ◌∷◌, ◌++◌, length, length-append, ap, sym, ◌∙◌}
use Rattle.fws_unfold.specs.declared.frame.Frame.{Frame}
use Rattle.fws_unfold.specs.declared.stack.Call.{Call}
use Rattle.fws_unfold.specs.Stacks.{joined}
use Rattle.fws_unfold.proofs.Stacks.{joined_more}
use Rattle.fws_unfold.proofs.stack.Stack.pop.Goals as goal

pub returns-in-Some-Some-clause-last : goal.returns-in-Some-Some-clause-last
returns-in-Some-Some-clause-last c =
    let calls = c.pop.new.self.items in
    let starts = c.pop-2.new.self.items in
    let call = c.in-Some-Some.call in
    let s = c.in-Some-Some.starts in
    let all_calls : c.args.self.now.calls.items ≡ calls ++ call ∷ [] = c.in-Some-Some.ensures.items in
    let all_starts : c.args.self.now.starts.items ≡ starts ++ s ∷ [] = c.in-Some-Some.ensures'.items in
    let some_calls = ap length all_calls ∙ length-append calls (call ∷ []) in
    let some_starts = ap length all_starts ∙ length-append starts (s ∷ []) in
    let even : length calls ≡ length starts = omega (arith, some_calls, some_starts, c.requires) in
    ap (λ (ks : List Call). joined ks c.args.self.now.starts.items) all_calls
    ∙ ap (λ (ss : List (List ℕ)). joined (calls ++ call ∷ []) ss) all_starts
    ∙ joined_more calls starts call s even
    ∙ ap (λ (f : Frame). joined calls starts ++ f ∷ []) (sym c.with_starts.ensures)
