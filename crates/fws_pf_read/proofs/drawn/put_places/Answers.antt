use Rattle.std.proofs.Common.{◌++◌, ap, ◌∙◌}
use Rattle.fws_net.specs.declared.condition.Test.TheVariants as tests
use Rattle.fws_pf.specs.Drawn.{value_choices}
use Rattle.fws_pf_words.specs.Drawings.{drawn}
use Rattle.fws_pf_read.specs.Views.{draft_of}
use Rattle.fws_pf_read.proofs.Ahead.{six_ahead}
use Rattle.fws_pf_read.proofs.drawn.put_places.Goals as goal

pub returns : goal.returns
returns c = λ rest.
    let tables = c.args.tables.now in
    let d = draft_of c.args.d.now in
    let on = value_choices tables tests.Via d.faces in
    let proto = value_choices tables tests.Proto d.protocols in
    let src = value_choices tables tests.Src d.sources in
    let sport = value_choices tables tests.Sport d.source_ports in
    let dst = value_choices tables tests.Dst d.destinations in
    let dport = value_choices tables tests.Dport d.destination_ports in
    c.in_ok-put_place-6.ensures rest ∙ c.in_ok-put_place-5.ensures (dport ++ rest) ∙ c.in_ok-put_place-4.ensures (dst ++ (dport ++ rest))
    ∙ c.in_ok-put_place-3.ensures (sport ++ (dst ++ (dport ++ rest))) ∙ c.in_ok-put_place-2.ensures (src ++ (sport ++ (dst ++ (dport ++ rest))))
    ∙ c.in_ok-put_place.ensures (proto ++ (src ++ (sport ++ (dst ++ (dport ++ rest)))))
    ∙ ap (drawn c.args.all.now) (six_ahead on proto src sport dst dport rest)
