-- Frames that wait for one another.
use Rattle.std.proofs.Common.{◌≡◌, ℕ, suc, ◌+◌, ◌-◌, ◌<◌, ◌≤◌, true, List, [], ◌∷◌, ◌++◌, length, length-append, arith, refl, ap, sym, ◌∙◌, subst, get_or, Some, None, Result, Ok, Err, OnOk}
use Rattle.std.specs.List.{list_all}
use Rattle.std.proofs.lemmas.List.{get_or_default}
use Rattle.fws_num.specs.declared.memory.Memory.{Memory}
use Rattle.fws_ifcl.specs.declared.diagram.Chain.{Chain}
use Rattle.fws_ifcl.specs.declared.diagram.Rule.{Rule}
use Rattle.fws_ifcl.specs.declared.diagram.Place.{Place}
use Rattle.fws_ifcl.specs.Loops.{NoLoop, NamesChains, WalksUnfold, UsesUnfold}
use Rattle.fws_ifcl.specs.Soundness.{chain_ok}
use Rattle.fws_ifcl.specs.Walk.{rules_at}
use Rattle.fws_unfold.specs.declared.draft.Draft.{Draft}
use Rattle.fws_unfold.specs.declared.draft.DraftAct.TheVariants.{Go}
use Rattle.fws_unfold.specs.declared.frame.Frame.{Frame}
use Rattle.fws_unfold.specs.Drafts.{Does, walk_from, call_of, plain_act, start_of}
use Rattle.fws_unfold.specs.Used.{Uses, used_from}
use Rattle.fws_unfold.specs.Frames.{rules_of, IsPut, Begun, IsWhole, Waits, Waiting, Somewhere}
use Rattle.fws_unfold.proofs.Drafts.{longer}
use Rattle.fws_unfold.proofs.Bodies.{none_left, one_before, two_before, starts_more, starts_stay, plain_step, call_step, chain_done}
use Rattle.fws_unfold.proofs.BodiesUsed.{none_left_used, used_starts_more, used_starts_stay, plain_used_step, call_used_step, chain_used_done}

-- what follows from P wherever it holds follows behind frames that wait
pub waiting_more : (chains : List Chain) (P Q : ℕ → ℕ → List Draft → Type 0) → ((c back : ℕ) (old : List Draft) → P c back old → Q c back old)
    → (fs : List Frame) (c back : ℕ) (old : List Draft) → Waiting chains P fs c back old → Waiting chains Q fs c back old
waiting_more chains P Q more [] c back old w = more c back old w
waiting_more chains P Q more (f ∷ fs) c back old w = record {
  code = w.code;
  begun = w.begun;
  next = w.next;
  some = w.some;
  enters = w.enters;
  far = w.far;
  called = w.called;
  inner = waiting_more chains P Q more fs w.enters w.far w.code w.inner;
}

-- one more frame waits
pub waiting_push : (chains : List Chain) (P : ℕ → ℕ → List Draft → Type 0) (f : Frame) (fs : List Frame) (c back : ℕ) (old : List Draft)
    → Waiting chains (Waits chains P f) fs c back old → Waiting chains P (fs ++ f ∷ []) c back old
waiting_push chains P f [] c back old w = record {
  code = w.code;
  begun = w.begun;
  next = w.next;
  some = w.some;
  enters = w.enters;
  far = w.far;
  called = w.called;
  inner = w.inner;
}
waiting_push chains P f (g ∷ fs) c back old w = record {
  code = w.code;
  begun = w.begun;
  next = w.next;
  some = w.some;
  enters = w.enters;
  far = w.far;
  called = w.called;
  inner = waiting_push chains P f fs w.enters w.far w.code w.inner;
}

-- the last frame waits no longer
pub waiting_pop : (chains : List Chain) (P : ℕ → ℕ → List Draft → Type 0) (f : Frame) (fs : List Frame) (c back : ℕ) (old : List Draft)
    → Waiting chains P (fs ++ f ∷ []) c back old → Waiting chains (Waits chains P f) fs c back old
waiting_pop chains P f [] c back old w = record {
  code = w.code;
  begun = w.begun;
  next = w.next;
  some = w.some;
  enters = w.enters;
  far = w.far;
  called = w.called;
  inner = w.inner;
}
waiting_pop chains P f (g ∷ fs) c back old w = record {
  code = w.code;
  begun = w.begun;
  next = w.next;
  some = w.some;
  enters = w.enters;
  far = w.far;
  called = w.called;
  inner = waiting_pop chains P f fs w.enters w.far w.code w.inner;
}

-- it holds somewhere
pub waiting_holds : (chains : List Chain) (P : ℕ → ℕ → List Draft → Type 0) (fs : List Frame) (c back : ℕ) (old : List Draft) → Waiting chains P fs c back old → Somewhere P
waiting_holds chains P [] c back old w = record { chain = c; back = back; old = old; holds = w }
waiting_holds chains P (f ∷ fs) c back old w = waiting_holds chains P fs w.enters w.far w.code w.inner

-- what holds where something was put
pub if_put : (r : Result (Unit {0}) Memory) (A B : Type 0) → (A → B) → OnOk r A → OnOk r B
if_put (Ok x) A B more h = more h
if_put (Err e) A B more h = tt

-- What is put

-- a chain is begun
pub begin_put : (chains : List Chain) (c back n : ℕ) (starts : List ℕ) (old new : List Draft) → n ≡ length (rules_at chains c) → starts ≡ [] → c < length chains → back ≤ length old
    → ((at : ℕ) → Does (λ s. walk_from chains s at []) back old new) → ((at : ℕ) → Uses (λ s. used_from chains c s at []) (λ s. walk_from chains s at []) back old new)
    → IsPut chains (record { chain = c; back = back; left = n; starts = starts; next = 0 }) old new
begin_put chains c back n starts old new all none lt low does uses =
    let nothing : length starts ≡ 0 = ap length none in
    record {
      does = none_left chains (rules_at chains c) back n old new all does;
      uses = none_left_used chains c (rules_at chains c) back n old new all uses;
      starts = λ k less. absurd (omega arith);
      used_starts = λ k less s t. absurd (omega arith);
      counted = omega arith;
      known = lt;
      low = low;
    }

-- a rule that enters no chain is put
pub plain_put : (chains : List Chain) (f : Frame) (at : ℕ) (rule d : Rule) (from : Place) (old code new : List Draft) (more : List ℕ) (next : ℕ)
    → list_all (chain_ok (length chains)) chains ≡ true → f.left ≡ suc at → rule ≡ get_or (rules_of chains f) at d → ((a b : ℕ) → call_of rule.act a b ≡ None)
    → from ≡ record { chain = f.chain; rule = at } → next ≡ length code → more ≡ f.starts ++ next ∷ []
    → new ≡ record { cond = rule.cond; act = plain_act rule.act f.back (start_of more (length (rules_of chains f)) rule.act); rule = Some from } ∷ code
    → IsPut chains f old code → IsPut chains (record f { left = at; starts = more }) old new
plain_put chains f at rule d from old code new more next ok step is plain place is_next grown made put =
    let rules = rules_of chains f in
    let sum = put.counted in
    let le : f.left ≤ length rules = omega arith in
    let longer : length more ≡ length f.starts + 1 = ap length grown ∙ length-append f.starts (next ∷ []) in
    let known = starts_more chains rules f.back old code f.starts more next f.left put.starts put.does is_next grown sum in
    let used_known = used_starts_more chains f.chain rules f.back old code f.starts more next f.left put.used_starts put.uses is_next grown sum in
    let all : length rules ≤ at + length more = omega arith in
    record {
      does = plain_step chains f.chain rules f.left at rule d f.back old code new more (Some from) ok refl step le is put.low plain put.does known all made;
      uses = plain_used_step chains f.chain rules f.left at rule d f.back old code new more from ok refl step le is put.low plain put.does.behind place put.uses used_known all made;
      starts = starts_stay chains rules f.back old code more known new (one_before code new _ made);
      used_starts = used_starts_stay chains f.chain rules f.back old code new more known used_known (one_before code new _ made);
      counted = omega arith;
      known = put.known;
      low = put.low;
    }

-- a rule whose chain is put
pub call_put : (chains : List Chain) (f : Frame) (at : ℕ) (rule d : Rule) (from : Place) (old code body new : List Draft) (more : List ℕ) (e far size : ℕ)
    → f.left ≡ suc at → rule ≡ get_or (rules_of chains f) at d → from ≡ record { chain = f.chain; rule = at } → f.next ≡ length code → more ≡ f.starts ++ f.next ∷ []
    → size ≡ length body → Some (e, far) ≡ call_of rule.act f.next f.back
    → new ≡ record { cond = rule.cond; act = Go size; rule = Some from } ∷ record { cond = []; act = Go f.next; rule = None } ∷ body
    → IsPut chains f old code → IsWhole chains body e far code → IsPut chains (record f { left = at; starts = more }) old new
call_put chains f at rule d from old code body new more e far size step is place is_next grown is_size called made put whole =
    let rules = rules_of chains f in
    let sum = put.counted in
    let le : f.left ≤ length rules = omega arith in
    let longer : length more ≡ length f.starts + 1 = ap length grown ∙ length-append f.starts (f.next ∷ []) in
    let known = starts_more chains rules f.back old code f.starts more f.next f.left put.starts put.does is_next grown sum in
    let used_known = used_starts_more chains f.chain rules f.back old code f.starts more f.next f.left put.used_starts put.uses is_next grown sum in
    let grows = two_before code body new _ _ whole.does.behind made in
    record {
      does = call_step chains rules f.left at rule d f.back old code body new (Some from) e far f.next size step le is put.low is_next is_size called put.does whole.does made;
      uses = call_used_step chains f.chain rules f.left at rule d f.back old code body new from e far f.next size step le is put.low is_next is_size called put.does.behind whole.does.behind place
          put.uses whole.uses made;
      starts = starts_stay chains rules f.back old code more known new grows;
      used_starts = used_starts_stay chains f.chain rules f.back old code new more known used_known grows;
      counted = omega arith;
      known = put.known;
      low = put.low;
    }

-- all rules are put
pub whole_put : (walks : WalksUnfold) (unfolds : UsesUnfold) (chains : List Chain) (f : Frame) (code : List Draft) (c back : ℕ) (old : List Draft)
    → NoLoop chains → NamesChains chains → f.left ≡ 0 → Begun chains f code c back old → IsWhole chains code c back old
whole_put walks unfolds chains f code c back old none named zeroth b =
    subst (λ n. IsWhole chains code n back old) b.chain
    (subst (λ n. IsWhole chains code f.chain n old) b.ends
    (record {
      does = chain_done walks chains f.chain f.left (rules_of chains f) f.back old code none named b.put.known refl zeroth b.put.does;
      uses = chain_used_done walks unfolds chains f.chain f.left (rules_of chains f) f.back old code none named b.put.known refl zeroth b.put.uses;
    }))

-- a rule enters a chain
pub enters : (chains : List Chain) (f g : Frame) (at : ℕ) (rule d : Rule) (code body : List Draft) (next e far c back : ℕ) (old : List Draft)
    → f.left ≡ suc at → at < length (rules_of chains f) → rule ≡ get_or (rules_of chains f) at d → next ≡ length code → Some (e, far) ≡ call_of rule.act next f.back
    → Begun chains f code c back old → Begun chains g body e far code → Waits chains (Begun chains g body) (record f { next = next }) c back old
enters chains f g at rule d code body next e far c back old step lt is is_next called b inner =
    let same : f.left - 1 ≡ at = omega arith in
    record {
      code = code;
      begun = record { chain = b.chain; ends = b.ends; put = record { does = b.put.does; uses = b.put.uses; starts = b.put.starts; used_starts = b.put.used_starts; counted = b.put.counted; known = b.put.known; low = b.put.low } };
      next = is_next;
      some = omega arith;
      enters = e;
      far = far;
      called = λ x. called ∙ ap (λ (r : Rule). call_of r.act next f.back) (is ∙ get_or_default (rules_of chains f) at d x lt ∙ ap (λ k. get_or (rules_of chains f) k x) (sym same));
      inner = inner;
    }

-- What frames have in common

pub begun_within : (chains : List Chain) (f : Frame) (code : List Draft) (c back : ℕ) (old : List Draft) → Begun chains f code c back old → f.left ≤ length (rules_of chains f)
begun_within chains f code c back old b = let sum = b.put.counted in omega arith

pub begun_low : (chains : List Chain) (f : Frame) (code : List Draft) (c back : ℕ) (old : List Draft) → Begun chains f code c back old → f.back ≤ length code
begun_low chains f code c back old b = let grown = longer old code b.put.does.behind in let low = b.put.low in omega arith

pub waits_more : (chains : List Chain) (P Q : ℕ → ℕ → List Draft → Type 0) → ((c back : ℕ) (old : List Draft) → P c back old → Q c back old)
    → (f : Frame) (c back : ℕ) (old : List Draft) → Waits chains P f c back old → Waits chains Q f c back old
waits_more chains P Q more f c back old w = record {
  code = w.code;
  begun = w.begun;
  next = w.next;
  some = w.some;
  enters = w.enters;
  far = w.far;
  called = w.called;
  inner = more w.enters w.far w.code w.inner;
}

-- the frame that ran first is whole
pub whole_last : (chains : List Chain) (f : Frame) (code new : List Draft) (fs : List Frame) → fs ≡ []
    → ((c back : ℕ) (old : List Draft) → Begun chains f code c back old → IsWhole chains new c back old)
    → (c back : ℕ) (old : List Draft) → Waiting chains (Begun chains f code) fs c back old → IsWhole chains new c back old
whole_last chains f code new fs none more c back old w =
    more c back old (subst (λ (gs : List Frame). Waiting chains (Begun chains f code) gs c back old) none w)

pub last_waits : (chains : List Chain) (P : ℕ → ℕ → List Draft → Type 0) (fs gs : List Frame) (f : Frame) → fs ≡ gs ++ f ∷ []
    → (c back : ℕ) (old : List Draft) → Waiting chains P fs c back old → Waiting chains (Waits chains P f) gs c back old
last_waits chains P fs gs f is c back old w =
    waiting_pop chains P f gs c back old (subst (λ (hs : List Frame). Waiting chains P hs c back old) is w)
