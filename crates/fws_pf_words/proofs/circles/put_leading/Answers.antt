use Rattle.std.proofs.Common.{List, ap, ◌∙◌, subst, sym}
use Rattle.fws_pf.specs.declared.tables.Table.{Table}
use Rattle.fws_pf_words.specs.Circles.{NamesOneOf}
use Rattle.fws_pf_words.specs.Reached.{table_at}
use Rattle.fws_pf_words.proofs.Circling.{one_more}
use Rattle.fws_pf_words.proofs.circles.put_leading.Goals as goal

pub returns-in_ok-put_place : goal.returns-in_ok-put_place
returns-in_ok-put_place c name all on before =
    one_more c.args.tables.now name all c.args.back.now.keys c.put_place.new.places.keys c.args.place c.in_ok-put_place.ensures on
    (subst (λ (t : Table). NamesOneOf c.args.tables.now c.args.back.now.keys t.named)
    (c.table_at.ensures ∙ ap (λ (ts : List Table). table_at ts c.args.place) c.as_slice.ensures) (c.names_any_at.ensures c.if-names_any_at.true))
    before
