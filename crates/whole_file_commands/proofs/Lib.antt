mod Verified
mod PlanLaws
mod PlanFiles
mod ScanFiles
mod ReplyFiles
