mod EventNames
