use Rattle.std.proofs.lemmas.Result.{IfOk-weaker}
use Rattle.fws_ios_put_sources.specs.declared.translations.Sources.{Sources}
use Rattle.fws_ios_put_sources.specs.Lists.{AreTranslations}
use Rattle.fws_ios_put_sources.specs.Sources.{IsSources}
use Rattle.fws_ios_put_sources.proofs.Told.{crossing_told, sources_given}
use Rattle.fws_ios_put_sources.proofs.listing.sources_of.Goals as goal

pub translations_of-requires-clause-told : goal.translations_of-requires-clause-told
translations_of-requires-clause-told c =
    crossing_told c.ios_keeps_new_packets.ensures c.ios_sources_agree.ensures c.args.site.now c.args.tables.now c.requires.regular c.requires.fits c.in_ok-crossing.crossing
    c.in_ok-crossing.ensures.tops c.in_ok-crossing.ensures.value

pub returns : goal.returns
returns c =
    let site = c.args.site.now in
    let tables = c.args.tables.now in
    let tree = c.in_ok-crossing.crossing in
    let P : Sources → Type 0 = λ s. AreTranslations site tree.1 s in
    let Q : Sources → Type 0 = λ s. IsSources site tables s in
    IfOk-weaker c.translations_of.result P Q
    (λ s told. sources_given c.ios_keeps_new_packets.ensures site tables c.requires.regular c.requires.fits tree.1 c.in_ok-crossing.ensures.value s told) c.translations_of.ensures
