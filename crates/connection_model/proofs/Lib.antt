mod Ends
mod SendingExamples
mod ReceivingExamples
mod Laws
