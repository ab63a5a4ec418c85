use Rattle.std.proofs.Common.{◌<◌, ◌^◌, length, arith}
use Rattle.std.proofs.lemmas.Result.{IfOk-weaker}
use Rattle.fws_ios_put_sources.specs.declared.translations.Sources.{Sources}
use Rattle.fws_ios_put_sources.specs.Lists.{AreAsked, AreTranslations}
use Rattle.fws_ios_put_sources.proofs.Translated.{keys_distinct, translations_told}
use Rattle.fws_ios_put_sources.proofs.listing.translations_of.Goals as goal

pub returns : goal.returns
returns c =
    let site = c.args.site.now in
    let tree = c.args.crossing.now in
    let keys = c.in_ok-addrs.addrs.keys in
    let few : length keys < 2 ^ 63 = omega (arith, c.len-count.ensures.len, c.len-count.ensures.small) in
    let P : Sources → Type 0 = λ s. AreAsked site tree.1 keys keys s in
    let Q : Sources → Type 0 = λ s. AreTranslations site tree.1 s in
    IfOk-weaker c.lists_of.result P Q
    (λ s asked. translations_told c.quads_are_dotted.ensures c.addresses_are_dotted.ensures site tree.1 keys s (keys_distinct keys c.len-count.ensures.unique) few
    c.in_ok-addrs.ensures asked)
    c.lists_of.ensures
