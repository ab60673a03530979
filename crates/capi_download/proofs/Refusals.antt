-- 0 means accepted: what the function of this crate answers is 0 exactly then, and a refusal number of document 01 else.
use Rattle.std.specs.Prelude.{ℕ, ◌≡◌, true, List, Ok, Err, Some, None}
use Rattle.std.proofs.Math.Path.{refl}
use Rattle.octets.specs.Refusals.{listed, numbered, is_fine, Status}
use Rattle.octets.proofs.Refusals.{zero_accepted, listed_refused}
use Rattle.protocol.specs.Printer.{lending}
use Rattle.protocol.proofs.Refusals.{downloaded_verdict, download_numbered}
use Rattle.protocol.specs.Download.{Downloaded}
use Rattle.printer_bytes.specs.State.{printer_in, PrinterFound}
use Rattle.controller_bytes.specs.State.{settings_in}
use Rattle.capi_download.specs.Joined.{download_to, download_between, refusal_in}

-- ---- rabtunex_download: any ending of the download is no refusal

status_by : (d : Downloaded) → numbered (downloaded_verdict d) ≡ true → Status (is_fine (downloaded_verdict d)) (refusal_in d)
status_by (Ok found) h = zero_accepted
status_by (Err k) h = listed_refused h

module _ (settings book line not_yet diagnosis : List ℕ) where
  download_to_lem : (p : PrinterFound) (lengths bodies reply request : List ℕ)
      → numbered (downloaded_verdict (download_to p settings book line not_yet diagnosis lengths bodies reply request).answer) ≡ true
  unfolding listed
  download_to_lem (Some p) lengths bodies reply request =
      download_numbered (settings_in settings) book line not_yet diagnosis (lending p lengths bodies reply) request
  download_to_lem None lengths bodies reply request = refl

  pub download_status : (state lengths bodies reply request : List ℕ)
      → Status (is_fine (downloaded_verdict (download_between settings book line not_yet diagnosis state lengths bodies reply request).answer))
      (refusal_in (download_between settings book line not_yet diagnosis state lengths bodies reply request).answer)
  download_status state lengths bodies reply request =
      status_by (download_between settings book line not_yet diagnosis state lengths bodies reply request).answer
      (download_to_lem (printer_in state) lengths bodies reply request)
