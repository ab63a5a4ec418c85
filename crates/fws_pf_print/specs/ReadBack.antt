-- The text of a printable configuration is read as that configuration.
use Rattle.std.specs.Prelude.{◌≡◌, true, Ok}
use Rattle.fws_net.specs.declared.site.Site.{Site}
use Rattle.fws_net.specs.SiteLaws.{IsOrderly}
use Rattle.fws_pf.specs.declared.config.PfConfig.{PfConfig}
use Rattle.fws_pf.specs.FileText.{spelled}
use Rattle.fws_pf_print.specs.Printable.{is_printable}
use Rattle.fws_pf_print.specs.PrintedText.{config_text}

abbrev pub PrintedTextsAreRead : Type 0
PrintedTextsAreRead = (site : Site) (c : PfConfig) → IsOrderly site → is_printable site c ≡ true → spelled site (config_text site c) ≡ Ok c
