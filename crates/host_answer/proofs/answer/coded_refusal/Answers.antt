-- `coded_refusal` meets its contract, case by case.
-- Assumes nothing.
use Rattle.host_answer.proofs.answer.coded_refusal.Goals as goal

pub returns-in-ShortMemory : goal.returns-in-ShortMemory
returns-in-ShortMemory c = rw c.in-ShortMemory.is c.coded.ensures

pub returns-in-OverLimit : goal.returns-in-OverLimit
returns-in-OverLimit c = rw c.in-OverLimit.is c.coded-in-OverLimit.ensures

pub returns-in-ForeignHandle : goal.returns-in-ForeignHandle
returns-in-ForeignHandle c = rw c.in-ForeignHandle.is c.coded-in-ForeignHandle.ensures

pub returns-in-NodesFull : goal.returns-in-NodesFull
returns-in-NodesFull c = rw c.in-NodesFull.is c.coded-in-NodesFull.ensures

pub returns-in-ConstantsFull : goal.returns-in-ConstantsFull
returns-in-ConstantsFull c = rw c.in-ConstantsFull.is c.coded-in-ConstantsFull.ensures

pub returns-in-NoConstraint : goal.returns-in-NoConstraint
returns-in-NoConstraint c = rw c.in-NoConstraint.is c.coded-in-NoConstraint.ensures

pub returns-in-IllFormed : goal.returns-in-IllFormed
returns-in-IllFormed c = rw c.in-IllFormed.is c.coded-in-IllFormed.ensures

pub returns-in-TooManyNodes : goal.returns-in-TooManyNodes
returns-in-TooManyNodes c = rw c.in-TooManyNodes.is c.coded-in-TooManyNodes.ensures

pub returns-in-TooManyRoots : goal.returns-in-TooManyRoots
returns-in-TooManyRoots c = rw c.in-TooManyRoots.is c.coded-in-TooManyRoots.ensures

pub returns-in-ShortOutput : goal.returns-in-ShortOutput
returns-in-ShortOutput c = rw c.in-ShortOutput.is c.coded-in-ShortOutput.ensures

pub returns-in-IllegalBlob : goal.returns-in-IllegalBlob
returns-in-IllegalBlob c = rw c.in-IllegalBlob.is c.coded-in-IllegalBlob.ensures

pub returns-in-ExtensionRoot : goal.returns-in-ExtensionRoot
returns-in-ExtensionRoot c = rw c.in-ExtensionRoot.is c.coded-in-ExtensionRoot.ensures

pub returns-in-LeafOutside : goal.returns-in-LeafOutside
returns-in-LeafOutside c = rw c.in-LeafOutside.is c.coded-in-LeafOutside.ensures

pub returns-in-ShortEvals : goal.returns-in-ShortEvals
returns-in-ShortEvals c = rw c.in-ShortEvals.is c.coded-in-ShortEvals.ensures

pub returns-in-BadFraming : goal.returns-in-BadFraming
returns-in-BadFraming c = rw c.in-BadFraming.is c.coded-in-BadFraming.ensures
