mod AcceptedPlans
mod AlikePlans
pub mod Along
pub mod AfterWaits
mod BothSides
pub mod ByAnyLanes
pub mod Chains
mod Completions
pub mod Computed
mod Durations
mod Ends
mod EventsFit
pub mod FewInTime
mod FewUnderWay
mod FirstHalting
pub mod InVain
mod LaneLines
pub mod LastEvents
mod LastMembers
mod Latest
mod LeastSet
mod LeftOut
mod LeftOutInVain
mod LineTypes
pub mod Named
mod NoneSkipped
pub mod OnlyWarning
mod OpenInLanes
mod PlainSteps
mod PlannedElements
mod PlannedLines
mod ProvisionsFit
mod Queued
mod ReadPlans
mod ReadScripts
pub mod RelativeAddresses
mod SecretBytes
mod SecretChanges
mod SecretOutputs
mod SecretRuns
mod SecretStreams
pub mod Skipped
mod StepsOnce
mod TimeLineFits
mod TimeLines
pub mod UnderWay
pub mod Waited
mod WholeBegins
pub mod WholeSteps
pub mod WithoutWaits
mod WordsOfPlans
mod WrittenOrder
