use Rattle.std.proofs.Common.{List, Ok, All, subst}
use Rattle.fws_num.specs.declared.comments.Comments.TheVariants.{HashLine}
use Rattle.fws_num.specs.Lines.{read_of}
use Rattle.fws_events.specs.declared.events.Event.{Event}
use Rattle.fws_events.specs.EventText.{event_of, events_of}
use Rattle.fws_events.specs.Runs.{IsEventOf}
use Rattle.fws_net.specs.Reading.{ReadGiven, text_read}
use Rattle.fws_trace.specs.Lines.{IsGiven, line_step}
use Rattle.fws_events.proofs.EventsOfSite.{listed_of_site, read_has}
use Rattle.fws_events.proofs.reading.read_events.Goals as goal

pub returns-clause-given : goal.returns-clause-given
returns-clause-given c = c.listed.ensures (event_of c.args.site.now) c.args.text.now
    (subst (λ (xs : List Event). ReadGiven c.read_text.result (text_read HashLine (line_step (event_of c.args.site.now)) (λ ys. Ok ys) xs c.args.text.now))
    c.new.ensures c.read_text.ensures)

pub returns-clause-of_site : goal.returns-clause-of_site
returns-clause-of_site c =
    let site = c.args.site.now in
    let text = c.args.text.now in
    read_has c.listed.result (λ events. events.items) (events_of text site) (All (IsEventOf site)) (λ answer. IsGiven answer (events_of text site))
    (returns-clause-given c) (listed_of_site c.spelled_packets_are_of_site.ensures site (read_of HashLine text).lines)
