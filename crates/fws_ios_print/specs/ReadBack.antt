-- The text of a printable configuration is read as that configuration.
use Rattle.std.specs.Prelude.{◌≡◌, true, Ok}
use Rattle.fws_net.specs.declared.site.Site.{Site}
use Rattle.fws_net.specs.SiteLaws.{IsOrderly}
use Rattle.fws_ios.specs.declared.config.IosConfig.{IosConfig}
use Rattle.fws_ios.specs.FileText.{spelled}
use Rattle.fws_ios_print.specs.Printable.{is_printable}
use Rattle.fws_ios_print.specs.PrintedText.{config_text}

abbrev pub PrintedTextsAreRead : Type 0
PrintedTextsAreRead = (site : Site) (c : IosConfig) → IsOrderly site → is_printable site c ≡ true → spelled site (config_text site c) ≡ Ok c
