mod LogSteps
