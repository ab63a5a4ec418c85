use Rattle.std.proofs.Common.{◌≡◌, IfOk, refl, subst, sym}
use Rattle.std.proofs.lemmas.Result.{IfOk-weaker}
use Rattle.fws_top.specs.Answered.{Answered}
use Rattle.fws_top.specs.declared.form.Form.{Form}
use Rattle.fws_top.specs.declared.status.Status.TheVariants as status
use Rattle.fws_top.specs.Forms.{asked, help, synth, query, translate, trace, why, run, same, dead, load}
use Rattle.fws_top.specs.Plan.{plan_of}
use Rattle.fws_top.specs.Texts.{help_text}
use Rattle.fws_top.proofs.answering.follow.Goals as goal

pub returns-in-Help-clause-answered : goal.returns-in-Help-clause-answered
returns-in-Help-clause-answered g c =
    let told = g.S.Shelf.told c.args.shelf.now in
    let faults = g.S.Shelf.faults c.args.shelf.now in
    subst (λ (form : Form). IfOk c.said-in-Help.result (λ answer. Answered (plan_of (asked form)) told faults faults answer.status answer.text)) (sym c.in-Help.is)
    (IfOk-weaker c.said-in-Help.result (λ answer. (answer.status ≡ status.Ok) × (answer.text ≡ help_text)) (λ answer. Answered (plan_of help) told faults faults answer.status answer.text)
    (λ answer is. (tt, refl, is.0, is.1)) c.said-in-Help.ensures)

pub returns-in-Synth-clause-answered : goal.returns-in-Synth-clause-answered
returns-in-Synth-clause-answered g c =
    let w = c.in-Synth in
    let told = g.S.Shelf.told c.args.shelf.now in
    let old = g.S.Shelf.faults c.args.shelf.now in
    let new = g.S.Shelf.faults c.synth.new.shelf in
    subst (λ (form : Form). IfOk c.ended.result (λ answer. Answered (plan_of (asked form)) told old new answer.status answer.text)) (sym w.is)
    (c.ended.ensures (plan_of (synth w.lang w.site.now w.file.now w.state)) told old new c.synth.ensures.answered c.synth.ensures.stopped)

pub returns-in-Query-clause-answered : goal.returns-in-Query-clause-answered
returns-in-Query-clause-answered g c =
    let w = c.in-Query in
    let told = g.S.Shelf.told c.args.shelf.now in
    let old = g.S.Shelf.faults c.args.shelf.now in
    let new = g.S.Shelf.faults c.query.new.shelf in
    subst (λ (form : Form). IfOk c.ended-in-Query.result (λ answer. Answered (plan_of (asked form)) told old new answer.status answer.text)) (sym w.is)
    (c.ended-in-Query.ensures (plan_of (query w.lang w.site.now w.file.now w.state w.asks.now)) told old new c.query.ensures.answered c.query.ensures.stopped)

pub returns-in-Trace-clause-answered : goal.returns-in-Trace-clause-answered
returns-in-Trace-clause-answered g c =
    let w = c.in-Trace in
    let told = g.S.Shelf.told c.args.shelf.now in
    let old = g.S.Shelf.faults c.args.shelf.now in
    let new = g.S.Shelf.faults c.trace.new.shelf in
    subst (λ (form : Form). IfOk c.ended-in-Trace.result (λ answer. Answered (plan_of (asked form)) told old new answer.status answer.text)) (sym w.is)
    (c.ended-in-Trace.ensures (plan_of (trace w.lang w.site.now w.file.now w.conns.now w.packets.now)) told old new c.trace.ensures.answered c.trace.ensures.stopped)

pub returns-in-Why-clause-answered : goal.returns-in-Why-clause-answered
returns-in-Why-clause-answered g c =
    let w = c.in-Why in
    let told = g.S.Shelf.told c.args.shelf.now in
    let old = g.S.Shelf.faults c.args.shelf.now in
    let new = g.S.Shelf.faults c.why.new.shelf in
    subst (λ (form : Form). IfOk c.ended-in-Why.result (λ answer. Answered (plan_of (asked form)) told old new answer.status answer.text)) (sym w.is)
    (c.ended-in-Why.ensures (plan_of (why w.lang w.site.now w.file.now w.conns.now w.packets.now)) told old new c.why.ensures.answered c.why.ensures.stopped)

pub returns-in-Run-clause-answered : goal.returns-in-Run-clause-answered
returns-in-Run-clause-answered g c =
    let w = c.in-Run in
    let told = g.S.Shelf.told c.args.shelf.now in
    let old = g.S.Shelf.faults c.args.shelf.now in
    let new = g.S.Shelf.faults c.run.new.shelf in
    subst (λ (form : Form). IfOk c.ended-in-Run.result (λ answer. Answered (plan_of (asked form)) told old new answer.status answer.text)) (sym w.is)
    (c.ended-in-Run.ensures (plan_of (run w.lang w.site.now w.file.now w.events.now)) told old new c.run.ensures.answered c.run.ensures.stopped)

pub returns-in-Same-clause-answered : goal.returns-in-Same-clause-answered
returns-in-Same-clause-answered g c =
    let w = c.in-Same in
    let told = g.S.Shelf.told c.args.shelf.now in
    let old = g.S.Shelf.faults c.args.shelf.now in
    let new = g.S.Shelf.faults c.same.new.shelf in
    subst (λ (form : Form). IfOk c.ended-in-Same.result (λ answer. Answered (plan_of (asked form)) told old new answer.status answer.text)) (sym w.is)
    (c.ended-in-Same.ensures (plan_of (same w.lang w.site.now w.file.now w.other_lang w.other.now)) told old new c.same.ensures.answered c.same.ensures.stopped)

pub returns-in-Dead-clause-answered : goal.returns-in-Dead-clause-answered
returns-in-Dead-clause-answered g c =
    let w = c.in-Dead in
    let told = g.S.Shelf.told c.args.shelf.now in
    let old = g.S.Shelf.faults c.args.shelf.now in
    let new = g.S.Shelf.faults c.dead.new.shelf in
    subst (λ (form : Form). IfOk c.ended-in-Dead.result (λ answer. Answered (plan_of (asked form)) told old new answer.status answer.text)) (sym w.is)
    (c.ended-in-Dead.ensures (plan_of (dead w.lang w.site.now w.file.now)) told old new c.dead.ensures.answered c.dead.ensures.stopped)

pub returns-in-Translate-clause-answered : goal.returns-in-Translate-clause-answered
returns-in-Translate-clause-answered g c =
    let w = c.in-Translate in
    let told = g.S.Shelf.told c.args.shelf.now in
    let old = g.S.Shelf.faults c.args.shelf.now in
    let new = g.S.Shelf.faults c.translate.new.shelf in
    subst (λ (form : Form). IfOk c.answered.result (λ answer. Answered (plan_of (asked form)) told old new answer.status answer.text)) (sym w.is)
    (c.answered.ensures (plan_of (translate w.from w.to w.site.now w.file.now)) told old new c.translate.ensures.answered c.translate.ensures.stopped)

pub returns-in-Load-clause-answered : goal.returns-in-Load-clause-answered
returns-in-Load-clause-answered g c =
    let w = c.in-Load in
    let told = g.S.Shelf.told c.args.shelf.now in
    let faults = g.S.Shelf.faults c.args.shelf.now in
    subst (λ (form : Form). IfOk c.ended-in-Load.result (λ answer. Answered (plan_of (asked form)) told faults faults answer.status answer.text)) (sym w.is)
    (c.ended-in-Load.ensures (plan_of (load w.n)) told faults faults (c.load.ensures.answered told faults) (c.load.ensures.stopped told faults))
